-- `whole::two_products` meets its contract: a quant of five bits is within 31 and an activation quant within 128. Assumes nothing.
use Prim.Native.Nat.{ℕ, ◌^◌, ◌<◌}
use mathlib.Core.Path.{◌≡◌}
use native.Mathlib.Omega.{arith}
use lib.IntN.{ℤ, pos, ◌*ℤ◌}
use lib.Signed.{mag}
use mir.Syntax.{w8, w16}
use mir.Val.{SFits, to_z, of_z}
use mir.ValLaws.{to_z_pos}
use Rattle.dots_activation.specs.Whole.{Within}
use Rattle.dots_activation.proofs.Magnitudes.{pos_within, within_width}
use Rattle.dots_activation.proofs.Loops.{wide_is, product_fits, product_made, sum_fits, sum_made}
use Rattle.dots_whole.proofs.whole.two_products.Goals as goal

-- a and x, as the machine multiplies them
module _ (a : ℕ) (x : ℤ) (h : a < 32) (p : mag x < 2 ^ 7) where
  one_fits : SFits w16 (to_z w16 a *ℤ to_z w16 (of_z w16 (to_z w8 (of_z w8 x))))
  one_fits = product_fits w16 (to_z_pos w16 a (omega arith)) (wide_is w8 w16 x p tt) (pos_within {B = 31} (omega arith)) (within_width w8 x p) tt

  one_made : (to_z w16 (of_z w16 (to_z w16 a *ℤ to_z w16 (of_z w16 (to_z w8 (of_z w8 x))))) ≡ pos a *ℤ x) × Within 3968 (to_z w16 (of_z w16 (to_z w16 a *ℤ to_z w16 (of_z w16 (to_z w8 (of_z w8 x))))))
  one_made = product_made w16 (to_z_pos w16 a (omega arith)) (wide_is w8 w16 x p tt) (pos_within {B = 31} (omega arith)) (within_width w8 x p) tt

pub overflow_add-result : goal.overflow_add-result
overflow_add-result c =
    let m = one_made c.args.a c.args.x c.requires.0 c.ranges.x.sfits in
    let n = one_made c.args.b c.args.y c.requires.1 c.ranges.y.sfits in
    sum_fits w16 m.0 n.0 m.1 n.1 tt

pub returns : goal.returns
returns c =
    let m = one_made c.args.a c.args.x c.requires.0 c.ranges.x.sfits in
    let n = one_made c.args.b c.args.y c.requires.1 c.ranges.y.sfits in
    sum_made w16 m.0 n.0 m.1 n.1 tt
