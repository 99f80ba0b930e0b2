-- `sum_of` meets its contract: a signed byte is within 128. Assumes nothing.
use mathlib.Core.Path.{◌≡◌}
use mathlib.Core.Bool.{Bool, true, false, cond}
use Prim.Native.Nat.{ℕ, suc, ◌-◌, ◌<◌}
use native.Mathlib.Omega.{arith}
use lib.Dec.{ltb}
use lib.IntN.{ℤ, pos, negsuc, ◌+ℤ◌}
use lib.Signed.{mag}
use mir.Syntax.{w8, w16}
use mir.Val.{SFits, to_z, of_z}
use Rattle.numbers.proofs.Signed.{read_is}
use Rattle.nearest.proofs.sum_of.Goals as goal

either : (t : Bool) (a b : ℕ) → a < 256 → b < 256 → mag (cond t (negsuc a) (pos b)) < 256
either true a b h k = h
either false a b h k = k

small : (x y : ℤ) → mag x < 128 → mag y < 128 → mag (x +ℤ y) < 256
small (pos a) (pos b) h k = omega arith
small (pos a) (negsuc b) h k = either (ltb a (suc b)) (suc b - suc a) (a - suc b) (omega arith) (omega arith)
small (negsuc a) (pos b) h k = either (ltb b (suc a)) (suc a - suc b) (b - suc a) (omega arith) (omega arith)
small (negsuc a) (negsuc b) h k = omega arith

-- a byte as the machine widens it
module _ (z : ℤ) (h : mag z < 128) where
  wide_fits : SFits w16 (to_z w8 (of_z w8 z))
  wide_fits = rw (read_is w8 z h) (record { sfits = omega arith })

  wide_is : to_z w16 (of_z w16 (to_z w8 (of_z w8 z))) ≡ z
  wide_is = rw (read_is w8 z h) (read_is w16 z (omega arith))

pub overflow_cast-result : goal.overflow_cast-result
overflow_cast-result c = wide_fits c.args.a c.ranges.a.sfits

pub overflow_cast-result-2 : goal.overflow_cast-result-2
overflow_cast-result-2 c = wide_fits c.args.b c.ranges.b.sfits

pub overflow_add-result : goal.overflow_add-result
overflow_add-result c =
    let a = c.ranges.a.sfits in
    let b = c.ranges.b.sfits in
    rw (wide_is c.args.a a, wide_is c.args.b b) (record { sfits = omega (arith, small c.args.a c.args.b a b) })

pub returns : goal.returns
returns c =
    let a = c.ranges.a.sfits in
    let b = c.ranges.b.sfits in
    rw (wide_is c.args.a a, wide_is c.args.b b) (read_is w16 _ (omega (arith, small c.args.a c.args.b a b)))
