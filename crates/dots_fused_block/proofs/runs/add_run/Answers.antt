-- `runs::add_run` meets its contract: the second eight terms after the first. Assumes nothing.
use mathlib.Core.Path.{refl}
use Rattle.sums_lanes.proofs.LaneLaws.{lanes_none}
use Rattle.dots_fused_block.specs.Inner.{run_terms}
use Rattle.dots_fused_block.proofs.Grown.{run_more, run_part}
use Rattle.dots_fused_block.proofs.runs.add_run.Goals as goal

pub returns : goal.returns
returns c =
    let a = c.args in
    let p = run_terms a.x.now a.q.now a.d in
    let half = run_more a.l a.l c.eight_terms-half.result p _ 0 8 8 refl refl (λ i h. run_part a.x.now a.q.now a.d 0 8 i h) c.eight_terms-half.ensures (lanes_none a.l p) in
    run_more a.l c.eight_terms-half.result _ p _ 8 8 16 refl refl (λ i h. run_part a.x.now a.q.now a.d 8 8 i h) c.eight_terms.ensures half
