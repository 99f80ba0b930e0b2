-- `sub_blocks::add_sub_block` meets its contract: in turn e the eight terms from 8 e on are added. Assumes nothing.
use Prim.Native.Nat.{◌+◌, ◌-◌, ◌*◌}
use Rattle.sums_lanes.proofs.LaneLaws.{lanes_none}
use Rattle.dots_fused_block.specs.Inner.{sub_block_terms}
use Rattle.dots_fused_block.proofs.Grown.{grown_more, grown_done, sub_block_part}
use native.Mathlib.Omega.{arith}
use Rattle.dots_fused_block.proofs.sub_blocks.add_sub_block.Goals as goal

pub loop-e-init : goal.loop-e-init
loop-e-init c = (c.requires.0, (omega arith, lanes_none _ _))

pub loop-e-preserved : goal.loop-e-preserved
loop-e-preserved c =
    let a = c.args in
    let e = c.loop-e.e in (
      omega arith,
      grown_more a.l.now c.loop-e.l _ (sub_block_terms a.x.now a.q.now a.d a.m) _ 8 4 e (omega arith) (omega arith) (omega arith)
          (λ i h. sub_block_part a.x.now a.q.now a.d a.m (8 * e) (8 * e + 8 - 8 * e) i (omega arith)) c.eight_terms.ensures c.loop-e.invariant.1,
    )

pub returns : goal.returns
returns c =
    let a = c.args in
    grown_done a.l.now c.loop-e.l (sub_block_terms a.x.now a.q.now a.d a.m) 8 4 c.loop-e.e (omega arith) c.loop-e.invariant.1
