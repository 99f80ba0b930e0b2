-- `counts::weights_short` meets its contract: no block has 0 bytes. Assumes nothing.
use mathlib.Core.Path.{sym}
use native.Mathlib.Omega.{arith}
use Rattle.layouts.specs.declared.format.Format.TheVariants.{OfK}
use Rattle.layouts.proofs.Sizes.{sizes}
use Rattle.layouts.proofs.counts.weights_short.Goals as goal

pub nonzero_div-bytes : goal.nonzero_div-bytes
nonzero_div-bytes c = omega (arith, sizes (OfK c.args.format), c.block_bytes-size.ensures)

pub returns : goal.returns
returns c = rw (sym c.block_bytes-size.ensures) c.blocks_short.ensures
