-- `lanes::chunk_total` meets its contract: the terms are values. Assumes nothing.
use Rattle.sums_lanes.specs.Lanes.{values}
use Rattle.sums_lanes.proofs.lanes.chunk_total.Given as goal

abbrev pub ghost-add_terms : goal.ghost-add_terms
ghost-add_terms a = values a.term.now.0.now
