-- `sum::canonical_sum_pub` meets its contract. Assumes nothing.
use mathlib.Core.Path.{ap}
use borrow.Author.Tests.{lt-ltb, le-ltb, eq-eqb, ne_eqb}
use Rattle.refusals.specs.Refusals.{given}
use Rattle.std.proofs.Common.{Ok}
use Rattle.sums.specs.Says.{sum_says}
use Rattle.sums.proofs.sum.canonical_sum_pub.Goals as goal

pub returns-then-n-gt-MOST_IN : goal.returns-then-n-gt-MOST_IN
unfolding sum_says given
returns-then-n-gt-MOST_IN c = simp (lt-ltb _ _ c.if-n-gt-MOST_IN.true)

pub returns-then-n-eq0 : goal.returns-then-n-eq0
unfolding sum_says given
returns-then-n-eq0 c = simp (le-ltb _ _ c.if-n-gt-MOST_IN.false, eq-eqb _ _ c.if-n-eq0.true)

pub returns-then-x-n : goal.returns-then-x-n
unfolding sum_says given
returns-then-x-n c = simp (le-ltb _ _ c.if-n-gt-MOST_IN.false, ne_eqb _ _ c.if-n-eq0.false, lt-ltb _ _ c.if-x-n.true)

pub returns : goal.returns
unfolding sum_says given
returns c = simp (le-ltb _ _ c.if-n-gt-MOST_IN.false, ne_eqb _ _ c.if-n-eq0.false, le-ltb _ _ c.if-x-n.false) (ap Ok c.row_total.ensures)
