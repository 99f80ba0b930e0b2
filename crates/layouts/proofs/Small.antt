-- A difference of two small numbers, in a signed byte. Assumes nothing.
use mathlib.Core.Path.{◌≡◌, ◌∙◌}
use Prim.Native.Nat.{ℕ, zero, suc, ◌-◌, ◌<◌}
use native.Mathlib.Omega.{arith}
use mathlib.Core.Bool.{Bool, true, false, cond}
use lib.Dec.{ltb}
use lib.IntN.{pos, negsuc, ◌-ℤ◌}
use lib.Signed.{mag}
use mir.Syntax.{w8}
use mir.Val.{SFits, to_z, of_z}
use mir.ValLaws.{to_z-of_z, to_z_pos}

small_by : (b : Bool) (x y : ℕ) → x < 128 → y < 128 → mag (cond b (negsuc x) (pos y)) < 128
small_by true x y h k = h
small_by false x y h k = k

small : (n k : ℕ) → n < 128 → k < 128 → mag (pos n -ℤ pos k) < 128
small n zero h l = omega arith
small n (suc k) h l = small_by (ltb n (suc k)) (suc k - suc n) (n - suc k) (omega arith) (omega arith)

pub difference_fits : (n k : ℕ) → n < 128 → k < 128 → SFits w8 (to_z w8 n -ℤ to_z w8 k)
difference_fits n k h l = rw (to_z_pos w8 n h, to_z_pos w8 k l) (record { sfits = small n k h l })

pub difference_is : (n k : ℕ) → n < 128 → k < 128 → to_z w8 (of_z w8 (to_z w8 n -ℤ to_z w8 k)) ≡ pos n -ℤ pos k
difference_is n k h l = to_z-of_z w8 _ (difference_fits n k h l) ∙ rw (to_z_pos w8 n h, to_z_pos w8 k l)
