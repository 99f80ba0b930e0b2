-- The transcript is whole: it has room for every line. Assumes nothing.
use Prim.Native.Nat.{ℕ, zero, suc, ◌<◌, zero-le}
use mathlib.Core.Path.{◌≡◌, refl, sym, ap, ◌∙◌}
use mathlib.Core.Bool.{Bool, true, false, cond, true≢false}
use mathlib.Core.List.{List, [], ◌∷◌, ◌++◌}
use native.Mathlib.Omega.{arith}
use lib.ListN.{length, take, drop, length-drop}
use lib.Seq.{take_all}
use Rattle.frames.specs.Frame.{frame_of, size_of}
use Rattle.frames.proofs.Pieces.{size_within}
use Rattle.fillin_lines.specs.Lines.{is_last}
use Rattle.fillin_answer.specs.declared.state.State.{State}
use Rattle.fillin_answer.specs.Kept.{begun}
use Rattle.fillin_answer.specs.Answers.{Answer, text, answer_to}
use Rattle.fillin_transcript.specs.Transcript.{onward, by_records, transcript}

-- where the last line is not written yet, the lines that follow are the same
pub onward_same : (a : Answer) (x y : List ℕ) → (is_last a.says ≡ false → x ≡ y) → onward a x ≡ onward a y
onward_same a x y h = ap (λ (lines : List ℕ). text a ++ lines) (go (is_last a.says) h)
  where
    go : (b : Bool) → (b ≡ false → x ≡ y) → cond b [] x ≡ cond b [] y
    go true k = refl
    go false k = k refl

-- nothing is left: the last line
pub ends : (st : State) (w : List ℕ) → is_last (answer_to st w []).says ≡ true
unfolding answer_to frame_of
ends st w = refl

enough : (n m : ℕ) (s : List ℕ) (st : State) (w : List ℕ) → length s < n → length s < m → by_records n s st w ≡ by_records m s st w
unfolding by_records
enough zero m s st w h k = absurd (omega arith)
enough (suc n) zero s st w h k = absurd (omega arith)
enough (suc n) (suc m) [] st w h k =
    let a = answer_to st w (take (size_of []) []) in
    let last : is_last a.says ≡ true = rw (take_all (size_of []) [] zero-le) (ends st w) in
    onward_same a (by_records n (drop (size_of []) []) a.state a.weights) (by_records m (drop (size_of []) []) a.state a.weights) (λ o. absurd (true≢false (sym last ∙ o)))
enough (suc n) (suc m) (b ∷ bs) st w h k =
    let s = b ∷ bs in
    let a = answer_to st w (take (size_of s) s) in
    let size = size_within s in
    let less : length (drop (size_of s) s) < length s = rw length-drop (omega arith) in
    let same = enough n m (drop (size_of s) s) a.state a.weights (omega arith) (omega arith) in
    onward_same a (by_records n (drop (size_of s) s) a.state a.weights) (by_records m (drop (size_of s) s) a.state a.weights) (λ o. same)

-- THE PROGRAM'S TRANSCRIPT
pub whole_transcript : (s : List ℕ) (most : ℕ) → length s < most → by_records most s begun [] ≡ transcript s
unfolding transcript
whole_transcript s most h = enough most _ s begun [] h (omega arith)
