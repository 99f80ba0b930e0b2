-- `runs::eight_terms` meets its contract. Assumes nothing.
use Rattle.sums_lanes.proofs.LaneLaws.{Adding}
use Rattle.dots_fused_block.specs.Inner.{run_terms}
use Rattle.dots_fused_block.proofs.runs.eight_terms.Given as goal

abbrev pub invariant-loop-i : goal.invariant-loop-i
invariant-loop-i l = Adding l.initial.out (run_terms l.x l.q l.d) 8 l.out l.i
