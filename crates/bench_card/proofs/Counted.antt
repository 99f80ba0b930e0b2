-- How the count of wrong rows grows. Assumes nothing.
use mathlib.Core.Path.{◌≡◌}
use mathlib.Core.Bool.{Bool, true, false, cond}
use Prim.Native.Nat.{ℕ, ◌+◌, ◌≤◌}
use native.Mathlib.Omega.{arith}

-- a row more is at most one wrong more
pub one_more : (right : Bool) (wrong r : ℕ) → r ≡ cond right wrong (wrong + 1) → r ≤ wrong + 1
one_more true wrong r e = omega arith
one_more false wrong r e = omega arith
