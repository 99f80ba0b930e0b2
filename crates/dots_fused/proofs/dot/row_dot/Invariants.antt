-- `dot::row_dot` meets its contract: the terms are those of the readings and the packed weights. Assumes nothing.
use Rattle.dots_fused_block.specs.Terms.{terms}
use Rattle.dots_fused.proofs.dot.row_dot.Given as goal

abbrev pub ghost-meet_chunks : goal.ghost-meet_chunks
ghost-meet_chunks a = terms a.chunk.0 a.chunk.1.now a.chunk.2.now
