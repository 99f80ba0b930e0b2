-- The number steps of "Readings to small integers". Definitions only.
use Rattle.std.specs.Prelude.{cond, ℤ, from_bits, Float}
use Rattle.std.specs.Float.{binary32}
use Rattle.std.specs.Float.Ieee.{lt, neg, to_signed}

-- +0.0
abbrev pub nought : Float
nought = from_bits binary32 0

-- the magnitude; a zero keeps its sign and a NaN stays, which no comparison tells
abbrev pub magnitude : Float → Float
magnitude v = cond (lt v nought) (neg v) v

-- Float to integer truncates toward zero, holds at the ends of i32, and makes NaN 0: an i32 has 31 bits and its sign.
abbrev pub truncated : Float → ℤ
truncated x = to_signed 31 x
