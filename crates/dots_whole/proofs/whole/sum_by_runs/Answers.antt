-- `whole::sum_by_runs` meets its contract: sixteen runs. Assumes nothing.
use mathlib.Core.Path.{◌≡◌, refl, ap, ◌∙◌}
use native.Mathlib.Omega.{arith}
use lib.IntN.{ℤ, ◌*ℤ◌}
use mir.Syntax.{w8, w32}
use Rattle.numbers.proofs.Signed.{read_is}
use Rattle.layouts.specs.K.{scale_q6k}
use Rattle.layouts.specs.declared.format.FormatK.TheVariants.{Q6K}
use Rattle.dots_activation.specs.Whole.{elem}
use Rattle.dots_activation.proofs.Loops.{acc_none, acc_all, call_more}
use Rattle.dots_whole.proofs.Runs.{stretch_weighs, stretch_is, stretches_are}
use Rattle.dots_whole.proofs.whole.sum_by_runs.Goals.{After-weighed-a}
use Rattle.dots_whole.proofs.whole.sum_by_runs.Goals as goal

pub loop-e-init : goal.loop-e-init
loop-e-init c = acc_none w32 _ 133693440

-- the turn's run
turn : (c : After-weighed-a)
    → let a = c.args in
    c.weighed-a.result ≡ stretch_weighs Q6K a.w.now (elem a.q.now) a.x.now 16 c.loop-e.e
unfolding scale_q6k
turn c =
    let a = c.args in
    let s = c.signed_byte in
    let r = c.run in
    (rw (read_is w32 _ r.type_inv, read_is w8 _ s.type_inv) at c.weighed-a.ensures.0)
    ∙ ap (λ (z : ℤ). s.result *ℤ z) r.ensures.0
    ∙ stretch_is Q6K a.w.now (elem a.q.now) a.x.now 16 c.loop-e.e s.result refl s.ensures

pub loop-e-preserved : goal.loop-e-preserved
loop-e-preserved c = call_more 16 c.loop-e.invariant c.weighed-a.type_inv (turn c) c.weighed-a.ensures.1 (omega arith) tt

pub returns : goal.returns
returns c =
    let a = c.args in
    (acc_all 16 c.loop-e.invariant (omega arith)).0 ∙ stretches_are Q6K a.w.now (elem a.q.now) a.x.now 16 16
