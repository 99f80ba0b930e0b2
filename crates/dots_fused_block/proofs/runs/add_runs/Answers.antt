-- `runs::add_runs` meets its contract: in turn e the terms of run e are added. Assumes nothing.
use Prim.Native.Nat.{◌+◌, ◌-◌, ◌*◌}
use Rattle.sums_lanes.proofs.LaneLaws.{lanes_none}
use Rattle.layouts.specs.declared.format.FormatK.TheVariants.{Q6K}
use Rattle.dots_fused_block.specs.Inner.{block_terms}
use Rattle.dots_fused_block.proofs.Grown.{grown_more, grown_done, run_terms_lem}
use native.Mathlib.Omega.{arith}
use Rattle.dots_fused_block.proofs.runs.add_runs.Invariants.{wholes}
use Rattle.dots_fused_block.proofs.runs.add_runs.Goals as goal

pub loop-e-init : goal.loop-e-init
loop-e-init c = (omega arith, lanes_none _ _)

pub loop-e-preserved : goal.loop-e-preserved
loop-e-preserved c =
    let s = c.scales_q6k-scales in
    let a = c.args in
    let e = c.loop-e.e in
    grown_more a.l c.loop-e.out _ (block_terms Q6K a.x.now a.block.now (wholes a.q.now)) _ 16 16 e (omega arith) (omega arith) (omega arith)
    (λ i h. run_terms_lem a.x.now a.block.now e (16 * e + 16 - 16 * e) i s.result a.q.now (omega arith) (omega arith) (omega arith) s.ensures) c.add_run-next.ensures c.loop-e.invariant

pub returns : goal.returns
returns c =
    let a = c.args in
    grown_done a.l c.loop-e.out (block_terms Q6K a.x.now a.block.now (wholes a.q.now)) 16 16 c.loop-e.e (omega arith) c.loop-e.invariant
