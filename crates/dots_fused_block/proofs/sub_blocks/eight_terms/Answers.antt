-- `sub_blocks::eight_terms` meets its contract. Assumes nothing.
use Rattle.sums_lanes.proofs.LaneLaws.{adding_start, adding_more, adding_done}
use Rattle.dots_fused_block.specs.Inner.{sub_block_terms}
use native.Mathlib.Omega.{arith}
use Rattle.dots_fused_block.proofs.sub_blocks.eight_terms.Goals as goal

pub loop-i-init : goal.loop-i-init
loop-i-init c = let a = c.args in adding_start a.l.now (sub_block_terms a.x.now a.q.now a.d a.m) 8 c.requires.0

pub loop-i-preserved : goal.loop-i-preserved
loop-i-preserved c =
    let a = c.args in
    adding_more a.l.now (sub_block_terms a.x.now a.q.now a.d a.m) 8 c.loop-i.l c.loop-i.i (omega arith) (omega arith) c.loop-i.invariant

pub returns : goal.returns
returns c =
    let a = c.args in
    adding_done a.l.now (sub_block_terms a.x.now a.q.now a.d a.m) 8 c.loop-i.l c.loop-i.i (omega arith) c.loop-i.invariant
