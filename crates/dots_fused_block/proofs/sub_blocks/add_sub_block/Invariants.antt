-- `sub_blocks::add_sub_block` meets its contract: in turn e the eight terms from 8 e on are added. Assumes nothing.
use mathlib.Core.Path.{◌≡◌}
use lib.ListN.{length}
use Rattle.dots_fused_block.specs.Inner.{sub_block_terms}
use Rattle.dots_fused_block.proofs.Grown.{Grown}
use Rattle.dots_fused_block.proofs.sub_blocks.add_sub_block.Given as goal

abbrev pub invariant-loop-e : goal.invariant-loop-e
invariant-loop-e l = (length l.l ≡ 8) × Grown l.initial.l (sub_block_terms l.x l.q l.d l.m) 8 4 l.l l.e
