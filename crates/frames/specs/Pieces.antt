-- Records of an input that comes in pieces. Definitions only.
use Rattle.std.specs.Prelude.{ℕ, Bool, cond, List, leb, length, Option, Some, None}
use Rattle.frames.specs.Frame.{size_of}

-- how many bytes the next record has, at the front of what has come and is not answered yet: a whole one's, or, where the
-- input has ended, all that is left; none where more has to come
unfoldable pub next_in : List ℕ → (ended : Bool) → Option ℕ
next_in rest ended = cond (leb (size_of rest) (length rest)) (Some (size_of rest)) (cond ended (Some (length rest)) None)
