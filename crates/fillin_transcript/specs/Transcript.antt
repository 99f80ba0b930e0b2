-- The whole transcript of a whole input. Definitions only.
use Rattle.std.specs.Prelude.{ℕ, zero, suc, ◌+◌, Bool, true, false, cond, List, [], ◌∷◌, ◌++◌, length, take, drop, Option, Some, None}
use Rattle.frames.specs.Frame.{size_of}
use Rattle.frames.specs.Pieces.{next_in}
use Rattle.fillin_lines.specs.Lines.{is_last}
use Rattle.fillin_answer.specs.declared.state.State.{State}
use Rattle.fillin_answer.specs.Kept.{begun}
use Rattle.fillin_answer.specs.Answers.{Answer, text, answer_to}

-- an answer's line, and behind it, where it is not the last one, the lines that follow
abbrev pub onward : Answer → List ℕ → List ℕ
onward a lines = text a ++ cond (is_last a.says) [] lines

-- at most `most` lines: the record that the rest begins with is answered of its own bytes, and then what follows them
unfoldable pub by_records : (most : ℕ) → (rest : List ℕ) → State → List ℕ → List ℕ
by_records zero rest st w = []
by_records (suc most) rest st w =
    let a = answer_to st w (take (size_of rest) rest) in
    onward a (by_records most (drop (size_of rest) rest) a.state a.weights)

-- the transcript of the input s: a record has at least six bytes, so there are no more lines than bytes and an end
unfoldable pub transcript : List ℕ → List ℕ
transcript s = by_records (length s + 1) s begun []

-- ---- the same, where the input comes in pieces: what later reads give

-- the input that pieces are
unfoldable pub joined : List (List ℕ) → List ℕ
joined [] = []
joined (piece ∷ pieces) = piece ++ joined pieces

-- what the next read gives: nothing where no piece is left, which is the end of the input
abbrev pub came : List (List ℕ) → List ℕ
came [] = []
came (piece ∷ pieces) = piece

-- the pieces after it
abbrev pub after : List (List ℕ) → List (List ℕ)
after [] = []
after (piece ∷ pieces) = pieces

-- no piece is left
abbrev pub over : List (List ℕ) → Bool
over [] = true
over (piece ∷ pieces) = false

-- by what stands at the front of the bytes that have come
abbrev pub by_next : {A : Type 0} → Option ℕ → (ℕ → A) → A → A
by_next (Some n) whole more = whole n
by_next None whole more = more

-- the lines, where `rest` has come and is not answered yet: a turn answers the next record, or reads once
unfoldable pub by_pieces : (most : ℕ) → (rest : List ℕ) → (ended : Bool) → List (List ℕ) → State → List ℕ → List ℕ
by_pieces zero rest ended pieces st w = []
by_pieces (suc most) rest ended pieces st w =
    by_next (next_in rest ended)
    (λ n.
    let a = answer_to st w (take n rest) in
    onward a (by_pieces most (drop n rest) ended pieces a.state a.weights))
    (by_pieces most (rest ++ came pieces) (over pieces) (after pieces) st w)
