-- `readings::first_of` meets its contract: no reading before it reaches the largest magnitude. Assumes nothing.
use mathlib.Core.Path.{sym, ◌∙◌}
use borrow.Author.Count.{below_none, below_more}
use lib.ListN.{length}
use native.Mathlib.Omega.{arith}
use Rattle.readings.proofs.FirstLargest.{found, nothing_found}
use Rattle.readings.proofs.magnitudes.first_of.Goals as goal

pub loop-v-init : goal.loop-v-init
loop-v-init c = below_none _

pub returns-then-reaches : goal.returns-then-reaches
returns-then-reaches c =
    let l = c.loop-v in
    let xs = c.args.x.now in
    let most = c.requires in
    sym
    (found xs (length xs) (λ j h. c.type_inv.x j) l.v-index (omega arith) (λ j h. rw most at (l.invariant j h))
    (rw most at (sym c.reaches.ensures ∙ c.if-reaches.true)))

pub loop-v-preserved : goal.loop-v-preserved
loop-v-preserved c = below_more _ _ c.loop-v.invariant (sym c.reaches.ensures ∙ c.if-reaches.false)

pub returns : goal.returns
returns c =
    let xs = c.args.x.now in
    let most = c.requires in
    sym (nothing_found xs (length xs) (λ j h. c.type_inv.x j) (λ j h. rw most at (c.loop-v.invariant j (omega arith))))
