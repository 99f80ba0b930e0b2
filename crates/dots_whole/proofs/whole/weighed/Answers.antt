-- `whole::weighed` meets its contract. Assumes nothing.
use mir.Syntax.{w8, w32}
use mir.ValLaws.{to_z-of_z}
use Rattle.dots_activation.proofs.Magnitudes.{within_width}
use Rattle.dots_activation.proofs.Loops.{wide_is, product_made}
use Rattle.dots_whole.proofs.whole.weighed.Goals as goal

pub returns : goal.returns
returns c = product_made w32 (wide_is w8 w32 c.args.a c.ranges.a.sfits tt) (to_z-of_z w32 c.args.s c.ranges.s) (within_width w8 c.args.a c.ranges.a.sfits) c.requires tt
