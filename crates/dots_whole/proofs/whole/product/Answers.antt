-- `whole::product` meets its contract. Assumes nothing.
use mir.Syntax.{w8, w32}
use Rattle.dots_activation.proofs.Magnitudes.{within_width}
use Rattle.dots_activation.proofs.Loops.{wide_is, product_made}
use Rattle.dots_whole.proofs.whole.product.Goals as goal

pub returns : goal.returns
returns c = product_made w32 (wide_is w8 w32 c.args.a c.ranges.a.sfits tt) (wide_is w8 w32 c.args.x c.ranges.x.sfits tt) (within_width w8 c.args.a c.ranges.a.sfits) (within_width w8 c.args.x c.ranges.x.sfits) tt
