-- `chunk::whole_blocks` meets its contract: in turn b the terms of block b are added. Assumes nothing.
use Prim.Native.Nat.{◌+◌, ◌-◌, ◌*◌, ◌/◌}
use lib.ListN.{length}
use Rattle.sums_lanes.specs.Lanes.{lanes}
use Rattle.sums_lanes.proofs.LaneLaws.{lanes_none}
use Rattle.dots_fused_block.specs.Terms.{terms}
use Rattle.dots_fused_chunk.proofs.Rows.{block_terms}
use Rattle.dots_fused_block.proofs.Grown.{grown_more, grown_done}
use native.Mathlib.Omega.{arith}
use Rattle.dots_fused_chunk.proofs.chunk.whole_blocks.Goals as goal

pub loop-b-init : goal.loop-b-init
loop-b-init c = (omega arith, lanes_none _ _)

pub loop-b-preserved : goal.loop-b-preserved
loop-b-preserved c =
    let size = c.block_bytes-size in
    let a = c.args in
    let i = c.loop-b.b in
    grown_more _ c.loop-b.out _ (terms a.format a.x.now a.w.now) _ 256 (length a.x.now / 256) i (omega arith) (omega arith) (omega arith)
    (λ l h. block_terms a.format a.x.now a.w.now i (256 * i) (256 * i + 256 - 256 * i) size.result (i * size.result + size.result - i * size.result) l size.ensures (omega arith) (omega arith) (omega arith) h) c.add_block-next.ensures c.loop-b.invariant

pub returns : goal.returns
unfolding lanes
returns c =
    let a = c.args in
    grown_done _ c.loop-b.out (terms a.format a.x.now a.w.now) 256 (length a.x.now / 256) c.loop-b.b (omega arith) c.loop-b.invariant
