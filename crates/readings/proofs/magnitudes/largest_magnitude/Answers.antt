-- `readings::largest_magnitude` meets its contract: the law of the two ends. Assumes nothing.
use mathlib.Core.Path.{◌∙◌}
use Rattle.readings.proofs.TwoEnds.{larger_end}
use Rattle.readings.proofs.magnitudes.largest_magnitude.Goals as goal

pub returns : goal.returns
returns c =
    c.larger_of.ensures ∙ simp (c.ends_of-e.ensures.0, c.ends_of-e.ensures.1) (larger_end c.args.x.now c.type_inv.x)
