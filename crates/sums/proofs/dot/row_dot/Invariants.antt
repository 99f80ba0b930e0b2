-- `dot::row_dot` meets its contract: the terms are products. Assumes nothing.
use Rattle.sums_lanes.specs.Lanes.{products}
use Rattle.sums.proofs.dot.row_dot.Given as goal

abbrev pub ghost-meet_chunks : goal.ghost-meet_chunks
ghost-meet_chunks a = products a.chunk.0.now a.chunk.1.now
