-- `sum::row_total` meets its contract: the terms are values. Assumes nothing.
use Rattle.sums_lanes.specs.Lanes.{values}
use Rattle.sums.proofs.sum.row_total.Given as goal

abbrev pub ghost-meet_chunks : goal.ghost-meet_chunks
ghost-meet_chunks a = values a.chunk.0.now
