-- `whole::weighed_pairs` meets its contract: a scale is within 63 and a pair within 7936. Assumes nothing.
use mathlib.Core.Path.{◌≡◌, sym, ◌∙◌, subst}
use native.Mathlib.Omega.{arith}
use lib.IntN.{◌+ℤ◌}
use mir.Syntax.{w16, w32}
use mir.Val.{to_z, of_z}
use mir.ValLaws.{to_z-of_z, to_z_pos}
use Rattle.dots_activation.specs.Whole.{Within}
use Rattle.dots_activation.proofs.Magnitudes.{pos_within, add_within, fits_within}
use Rattle.dots_activation.proofs.Loops.{both_fit, both_are, product_fits, product_made}
use Rattle.dots_whole.proofs.whole.weighed_pairs.Goals.{Start}
use Rattle.dots_whole.proofs.whole.weighed_pairs.Goals as goal

pub overflow_add-result : goal.overflow_add-result
overflow_add-result c = both_fit w16 c.ranges.x.sfits c.ranges.y.sfits c.requires.1 c.requires.2 tt

-- the sum in 16 bits
module _ (c : Start) where
  sum_is : to_z w16 (of_z w16 (to_z w16 (of_z w16 c.args.x) +ℤ to_z w16 (of_z w16 c.args.y))) ≡ c.args.x +ℤ c.args.y
  sum_is = both_are w16 c.ranges.x.sfits c.ranges.y.sfits c.requires.1 c.requires.2 tt

  sum_near : Within 15872 (c.args.x +ℤ c.args.y)
  sum_near = add_within c.requires.1 c.requires.2

pub overflow_cast-result-2 : goal.overflow_cast-result-2
overflow_cast-result-2 c = fits_within (subst (Within 15872) (sym (sum_is c)) (sum_near c)) tt

pub overflow_mul-result : goal.overflow_mul-result
overflow_mul-result c = product_fits w32 (to_z_pos w32 c.args.scale (omega arith)) (to_z-of_z w32 _ (overflow_cast-result-2 c) ∙ sum_is c) (pos_within {B = 63} (omega arith)) (sum_near c) tt

pub returns : goal.returns
returns c = product_made w32 (to_z_pos w32 c.args.scale (omega arith)) (to_z-of_z w32 _ (overflow_cast-result-2 c) ∙ sum_is c) (pos_within {B = 63} (omega arith)) (sum_near c) tt
