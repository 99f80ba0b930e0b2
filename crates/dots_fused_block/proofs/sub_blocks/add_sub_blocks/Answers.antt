-- `sub_blocks::add_sub_blocks` meets its contract: in turn j the terms of sub-block j are added. Assumes nothing.
use mathlib.Core.Path.{refl}
use Prim.Native.Nat.{◌+◌, ◌-◌, ◌/◌}
use lib.ListN.{length}
use Rattle.layouts.specs.declared.format.FormatK.TheVariants.{Q4K}
use Rattle.sums_lanes.proofs.LaneLaws.{lanes_none}
use Rattle.dots_fused_block.specs.Inner.{block_terms}
use Rattle.dots_fused_block.proofs.Grown.{grown_more, grown_done, sub_block_terms_lem}
use native.Mathlib.Omega.{arith}
use Rattle.dots_fused_block.proofs.sub_blocks.add_sub_blocks.Invariants.{wholes}
use Rattle.dots_fused_block.proofs.sub_blocks.add_sub_blocks.Goals as goal

pub loop-j-init : goal.loop-j-init
loop-j-init c = (refl, c.requires.0, (omega arith, lanes_none _ _))

pub loop-j-preserved : goal.loop-j-preserved
loop-j-preserved c =
    let s = c.scales_and_minimums-both in
    let a = c.args in
    let at = c.loop-j.at in
    let j = c.loop-j.j in (
      omega arith,
      omega arith,
      grown_more a.l.now c.loop-j.l _ (block_terms Q4K a.x.now a.block.now (wholes a.q.now)) _ 32 8 j (omega arith) (omega arith) (omega arith)
          (λ i h. sub_block_terms_lem a.x.now a.block.now at j (at + length a.q.now / 8 - at) i s.result a.q.now c.loop-j.invariant.0 (omega arith) (omega arith) (omega arith) s.ensures) c.add_sub_block.ensures c.loop-j.invariant.2,
    )

pub returns : goal.returns
returns c =
    let a = c.args in
    grown_done a.l.now c.loop-j.l (block_terms Q4K a.x.now a.block.now (wholes a.q.now)) 32 8 c.loop-j.j (omega arith) c.loop-j.invariant.2
