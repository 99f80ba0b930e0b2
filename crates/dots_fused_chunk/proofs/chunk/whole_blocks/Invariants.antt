-- `chunk::whole_blocks` meets its contract: in turn b the terms of block b are added. Assumes nothing.
use Prim.Native.Nat.{◌/◌}
use lib.ListN.{length}
use Rattle.dots_fused_block.specs.Terms.{terms}
use Rattle.dots_fused_block.proofs.Grown.{Grown}
use Rattle.dots_fused_chunk.proofs.chunk.whole_blocks.Given as goal

abbrev pub invariant-loop-b : goal.invariant-loop-b
invariant-loop-b l = Grown l.initial.out (terms l.format l.x l.w) 256 (length l.x / 256) l.out l.b
