-- `lanes::add_terms` meets its contract. Assumes nothing.
use mathlib.Core.Path.{refl, ap, ◌∙◌}
use Prim.Native.Nat.{◌*◌, ◌-◌, ◌%◌}
use native.Mathlib.Omega.{arith}
use Rattle.sums_lanes.specs.Lanes.{lanes_from}
use Rattle.sums_lanes.proofs.LaneLaws.{lanes_none, lanes_block}
use Rattle.sums_lanes.proofs.lanes.add_terms.Goals as goal

pub loop-b-init : goal.loop-b-init
loop-b-init g c = lanes_none _ _

pub loop-b-preserved : goal.loop-b-preserved
loop-b-preserved g c =
    let b = c.loop-b in
    c.eight_terms-next.ensures ∙ lanes_block c.args.l b.out g.p _ (8 * b.b) 8 (omega arith) (λ i h. refl) b.invariant ∙ ap (lanes_from c.args.l g.p) (omega arith)

pub returns : goal.returns
returns g c =
    let n = c.args.n in
    let sum = lanes_from c.args.l g.p in
    c.eight_terms.ensures ∙ lanes_block c.args.l c.loop-b.out g.p _ (n - n % 8) (n % 8) (omega arith) (λ i h. refl) (c.loop-b.invariant ∙ ap sum (omega arith)) ∙ ap sum (omega arith)
