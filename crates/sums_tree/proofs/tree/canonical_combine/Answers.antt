-- `tree::canonical_combine` meets its contract. Assumes nothing.
use mathlib.Core.Path.{◌≡◌, refl, ◌∙◌}
use native.Mathlib.Omega.{arith}
use Rattle.sums_tree.proofs.TreeLaws.{underway_start, underway_turn, underway_end, tree_none}
use Rattle.sums_tree.proofs.tree.canonical_combine.Goals as goal

pub returns-then-len-eq0 : goal.returns-then-len-eq0
returns-then-len-eq0 c = tree_none c.args.part.now c.if-len-eq0.true

pub loop-len-init : goal.loop-len-init
loop-len-init c = (omega arith, omega arith, refl, underway_start c.args.part.now)

pub loop-len-smaller : goal.loop-len-smaller
loop-len-smaller c = omega (arith, c.round-len.ensures.value)

pub loop-len-preserved : goal.loop-len-preserved
loop-len-preserved c =
    let r = c.round-len in
    let l = c.loop-len in
    let d = c.args.part.now in (
      omega (arith, r.ensures.value),
      omega (arith, r.ensures.value, r.auto.part),
      r.auto.part ∙ l.invariant.2,
      rw r.ensures.value (underway_turn d l.part r.new.part l.len l.invariant.1 (omega arith) r.ensures.part_after l.invariant.3),
    )

pub returns : goal.returns
returns c =
    let l = c.loop-len in
    let e : l.len ≡ 1 = omega arith in
    underway_end c.args.part.now l.part (omega arith) (rw e at l.invariant.3)
