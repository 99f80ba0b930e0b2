-- When a stored answer is ours. Definitions only.
use Prim.{Unit}
use Rattle.std.specs.Prelude.{ℕ, Bool, true, false, cond, List, ltb, eqb, length, get_or, Float, Ok, Err}
use Rattle.std.specs.Float.{nan, binary32}
use Rattle.std.specs.Float.Ieee.{to_bits}
use Rattle.refusals.specs.Said.{Said, number}
use Rattle.memory.specs.Lists.{every}
use Rattle.replay_answers.specs.Payload.{float_at}
use Rattle.replay_answers.specs.declared.findings.Finding.{Finding}
use Rattle.replay_answers.specs.declared.findings.Finding.TheVariants.{Same, Differs}

-- two floats are the same bits, or both NaN: every NaN has the bits 7FC00000
abbrev pub same_bits : Float → Float → Bool
same_bits a b = eqb (to_bits binary32 a) (to_bits binary32 b)

-- float i of a payload is float i of a list
abbrev pub same_float_at : List ℕ → List Float → ℕ → Bool
same_float_at p fs i = same_bits (get_or fs i nan) (float_at p i)

-- the payload's first floats are these
unfoldable pub same_floats : List ℕ → List Float → Bool
same_floats p fs = every (same_float_at p fs) (length fs)

-- byte i of a payload is byte i of a list
abbrev pub same_byte_at : List ℕ → List ℕ → ℕ → Bool
same_byte_at p bs i = eqb (get_or p i 0) (get_or bs i 0)

-- the payload's first bytes are these
unfoldable pub same_bytes : List ℕ → List ℕ → Bool
same_bytes p bs = cond (ltb (length p) (length bs)) false (every (same_byte_at p bs) (length bs))

-- a call that fills lent memory, or a check, says this number: that it is done is 0
abbrev pub says_number : Said (Unit {0}) → ℕ → Bool
says_number (Ok finished) theirs = eqb theirs 0
says_number (Err why) theirs = eqb (number why) theirs

-- a dot or a sum says this number, or where the number is 0 this value
abbrev pub same_answer : Said Float → ℕ → Float → Bool
same_answer (Ok v) said theirs = cond (eqb said 0) (same_bits v theirs) false
same_answer (Err why) said theirs = eqb (number why) said

-- what comes of an answer
abbrev pub finding_of : Bool → Finding
finding_of true = Same
finding_of false = Differs
