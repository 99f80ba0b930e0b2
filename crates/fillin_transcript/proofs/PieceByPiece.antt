-- In whatever pieces an input comes, the lines are its transcript. Assumes nothing.
use Prim.Native.Nat.{ℕ, zero, suc, ◌+◌, ◌≤◌, ◌<◌}
use mathlib.Core.Path.{◌≡◌, refl, sym, ap, ◌∙◌}
use mathlib.Core.Bool.{Bool, true, false, cond, true≢false}
use mathlib.Core.List.{List, [], ◌∷◌, ◌++◌, append_assoc, append-nil}
use native.Mathlib.Omega.{arith}
use borrow.Author.Tests.{leb-true, leb-false}
use lib.Dec.{leb}
use lib.ListN.{length, take, drop, length-append, length-drop, drop_of_length-le}
use lib.Seq.{take_all, take-length, take-append-le, drop-append-le}
use Rattle.frames.specs.Frame.{size_of}
use Rattle.frames.proofs.Pieces.{size_within, size_front, next_whole, next_left, next_more}
use Rattle.fillin_lines.specs.Lines.{is_last}
use Rattle.fillin_answer.specs.declared.state.State.{State}
use Rattle.fillin_answer.specs.Kept.{begun}
use Rattle.fillin_answer.specs.Answers.{answer_to}
use Rattle.fillin_transcript.specs.Transcript.{onward, by_records, transcript, joined, came, after, over, by_pieces}
use Rattle.fillin_transcript.proofs.RecordByRecord.{onward_same, ends}

-- turns that are enough for what has come, for the pieces and for the read that gives nothing
abbrev Enough : (most : ℕ) → List ℕ → Bool → List (List ℕ) → Type 0
Enough most rest ended pieces = length (rest ++ joined pieces) + length pieces + cond ended 0 1 < most

-- the next record is whole: a longer input has the same one at its front
whole_record : (m : ℕ) (rest more : List ℕ) (st : State) (w : List ℕ) → size_of rest ≤ length rest
    → by_records (suc m) (rest ++ more) st w ≡ (let a = answer_to st w (take (size_of rest) rest) in onward a (by_records m (drop (size_of rest) rest ++ more) a.state a.weights))
unfolding by_records
whole_record m rest more st w h =
    let size = size_front rest more (omega (arith, size_within rest)) in
    rw (size, take-append-le (size_of rest) rest more h, drop-append-le (size_of rest) rest more h)

-- the input has ended, and what is left is no whole record
what_is_left : (m : ℕ) (rest : List ℕ) (st : State) (w : List ℕ) → length rest < size_of rest
    → by_records (suc m) rest st w ≡ (let a = answer_to st w rest in onward a (by_records m [] a.state a.weights))
unfolding by_records
what_is_left m rest st w h =
    let short : length rest ≤ size_of rest = omega arith in
    rw (take_all (size_of rest) rest short, drop_of_length-le rest short)

-- a whole record, or less
by_size : (rest : List ℕ) {A : Type 0} → (size_of rest ≤ length rest → A) → (length rest < size_of rest → A) → A
by_size rest {A} whole less = go (leb (size_of rest) (length rest)) refl
  where
    go : (a : Bool) → leb (size_of rest) (length rest) ≡ a → A
    go true e = whole (leb-true (size_of rest) (length rest) e)
    go false e = less (leb-false (size_of rest) (length rest) e)

-- ---- a turn

-- it answers a whole record
turn_whole : (n : ℕ) (rest : List ℕ) (ended : Bool) (pieces : List (List ℕ)) (st : State) (w : List ℕ) → size_of rest ≤ length rest
    → by_pieces (suc n) rest ended pieces st w ≡ (let a = answer_to st w (take (size_of rest) rest) in onward a (by_pieces n (drop (size_of rest) rest) ended pieces a.state a.weights))
unfolding by_pieces
turn_whole n rest ended pieces st w h = rw (next_whole rest ended h)

-- it answers what is left
turn_left : (n : ℕ) (rest : List ℕ) (pieces : List (List ℕ)) (st : State) (w : List ℕ) → length rest < size_of rest
    → by_pieces (suc n) rest true pieces st w ≡ (let a = answer_to st w rest in onward a (by_pieces n [] true pieces a.state a.weights))
unfolding by_pieces
turn_left n rest pieces st w h =
    let all : length rest ≤ length rest = omega arith in
    rw (next_left rest h, take-length rest, drop_of_length-le rest all)

-- it reads
turn_reads : (n : ℕ) (rest : List ℕ) (pieces : List (List ℕ)) (st : State) (w : List ℕ) → length rest < size_of rest
    → by_pieces (suc n) rest false pieces st w ≡ by_pieces n (rest ++ came pieces) (over pieces) (after pieces) st w
unfolding by_pieces
turn_reads n rest pieces st w h = rw (next_more rest h)

-- ---- a turn, where the lines behind it are those of the records

on_whole : (n m : ℕ) (rest : List ℕ) (ended : Bool) (pieces : List (List ℕ)) (st : State) (w : List ℕ) → size_of rest ≤ length rest
    → (let a = answer_to st w (take (size_of rest) rest) in by_pieces n (drop (size_of rest) rest) ended pieces a.state a.weights ≡ by_records m (drop (size_of rest) rest ++ joined pieces) a.state a.weights)
    → by_pieces (suc n) rest ended pieces st w ≡ by_records (suc m) (rest ++ joined pieces) st w
on_whole n m rest ended pieces st w h later =
    turn_whole n rest ended pieces st w h
    ∙ ap (onward (answer_to st w (take (size_of rest) rest))) later
    ∙ sym (whole_record m rest (joined pieces) st w h)

on_left : (n m : ℕ) (rest : List ℕ) (st : State) (w : List ℕ) → length rest < size_of rest
    → (let a = answer_to st w rest in is_last a.says ≡ false → by_pieces n [] true [] a.state a.weights ≡ by_records m [] a.state a.weights)
    → by_pieces (suc n) rest true [] st w ≡ by_records (suc m) (rest ++ joined []) st w
unfolding joined
on_left n m rest st w h later =
    turn_left n rest [] st w h
    ∙ onward_same (answer_to st w rest) _ _ later
    ∙ sym (what_is_left m rest st w h)
    ∙ ap (λ (s : List ℕ). by_records (suc m) s st w) (sym (append-nil rest))

-- what is behind a whole record is shorter
shorter : (rest more : List ℕ) → size_of rest ≤ length rest → length (drop (size_of rest) rest ++ more) + 4 ≤ length (rest ++ more)
shorter rest more h = rw (length-append, length-append, length-drop) (omega (arith, size_within rest))

in_pieces : (n m : ℕ) (rest : List ℕ) (ended : Bool) (pieces : List (List ℕ)) (st : State) (w : List ℕ)
    → (ended ≡ true → pieces ≡ []) → length (rest ++ joined pieces) < m → Enough n rest ended pieces
    → by_pieces n rest ended pieces st w ≡ by_records m (rest ++ joined pieces) st w
unfolding joined
in_pieces zero m rest ended pieces st w none enough turns = absurd (omega arith)
in_pieces (suc n) zero rest ended pieces st w none enough turns = absurd (omega arith)
in_pieces (suc n) (suc m) rest true (piece ∷ pieces) st w none enough turns = let e = none refl in let z : ◌≡◌ {A = ℕ} 0 1 = cc in absurd (omega arith)
in_pieces (suc n) (suc m) [] true [] st w none enough turns =
    by_size []
    (λ h. absurd (omega (arith, size_within [])))
    (λ h. on_left n m [] st w h (λ o. absurd (true≢false (sym (ends st w) ∙ o))))
in_pieces (suc n) (suc m) (b ∷ bs) true [] st w none enough turns =
    by_size (b ∷ bs)
    (λ h.
    let a = answer_to st w (take (size_of (b ∷ bs)) (b ∷ bs)) in
    let s = shorter (b ∷ bs) (joined []) h in
    on_whole n m (b ∷ bs) true [] st w h (in_pieces n m (drop (size_of (b ∷ bs)) (b ∷ bs)) true [] a.state a.weights none (omega arith) (omega arith)))
    (λ h.
    let a = answer_to st w (b ∷ bs) in
    on_left n m (b ∷ bs) st w h (λ o. in_pieces n m [] true [] a.state a.weights none (omega arith) (omega arith)))
in_pieces (suc n) (suc m) rest false [] st w none enough turns =
    by_size rest
    (λ h.
    let a = answer_to st w (take (size_of rest) rest) in
    let s = shorter rest (joined []) h in
    on_whole n m rest false [] st w h (in_pieces n m (drop (size_of rest) rest) false [] a.state a.weights none (omega arith) (omega arith)))
    (λ h.
    let same = append-nil (rest ++ []) in
    let long = ap length same in
    turn_reads n rest [] st w h
    ∙ in_pieces n (suc m) (rest ++ []) true [] st w (λ e. refl) (omega arith) (omega arith)
    ∙ ap (λ (s : List ℕ). by_records (suc m) s st w) same)
in_pieces (suc n) (suc m) rest false (piece ∷ pieces) st w none enough turns =
    by_size rest
    (λ h.
    let a = answer_to st w (take (size_of rest) rest) in
    let s = shorter rest (joined (piece ∷ pieces)) h in
    on_whole n m rest false (piece ∷ pieces) st w h (in_pieces n m (drop (size_of rest) rest) false (piece ∷ pieces) a.state a.weights none (omega arith) (omega arith)))
    (λ h.
    let same = append_assoc rest piece (joined pieces) in
    let long = ap length same in
    turn_reads n rest (piece ∷ pieces) st w h
    ∙ in_pieces n (suc m) (rest ++ piece) false pieces st w (λ e. absurd (true≢false (sym e))) (omega arith) (omega arith)
    ∙ ap (λ (s : List ℕ). by_records (suc m) s st w) same)

-- THE PROGRAM'S TRANSCRIPT, IN PIECES
pub piece_by_piece : (pieces : List (List ℕ)) (most : ℕ) → length (joined pieces) + length pieces + 1 < most → by_pieces most [] false pieces begun [] ≡ transcript (joined pieces)
unfolding transcript
piece_by_piece pieces most turns =
    in_pieces most _ [] false pieces begun [] (λ e. absurd (true≢false (sym e))) (omega arith) turns
