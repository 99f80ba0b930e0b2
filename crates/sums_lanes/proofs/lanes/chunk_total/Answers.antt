-- `lanes::chunk_total` meets its contract. Assumes nothing.
use mathlib.Core.Path.{ap, ◌∙◌}
use Rattle.sums_tree.specs.Tree.{tree}
use Rattle.sums_lanes.specs.Lanes.{lanes, chunk_sum}
use Rattle.sums_lanes.proofs.lanes.chunk_total.Goals as goal

pub returns : goal.returns
unfolding chunk_sum lanes
returns c = c.tree8.ensures ∙ ap tree c.add_terms.ensures
