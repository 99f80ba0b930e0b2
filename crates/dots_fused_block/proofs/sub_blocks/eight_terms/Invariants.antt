-- `sub_blocks::eight_terms` meets its contract. Assumes nothing.
use Rattle.sums_lanes.proofs.LaneLaws.{Adding}
use Rattle.dots_fused_block.specs.Inner.{sub_block_terms}
use Rattle.dots_fused_block.proofs.sub_blocks.eight_terms.Given as goal

abbrev pub invariant-loop-i : goal.invariant-loop-i
invariant-loop-i l = Adding l.initial.l (sub_block_terms l.x l.q l.d l.m) 8 l.l l.i
