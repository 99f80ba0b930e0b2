-- `block::sums_right` meets its contract: every sum passed is right. Assumes nothing.
use mathlib.Core.Path.{◌≡◌, sym, ap, ◌∙◌, subst}
use mathlib.Core.Bool.{false≢true}
use native.Mathlib.Omega.{arith}
use borrow.Author.Count.{below_none, below_more}
use mir.Syntax.{w16, w32}
use mir.Val.{to_z, of_z}
use mir.ValLaws.{to_z-of_z}
use Rattle.memory.proofs.Every.{every_none, every_more, every_not}
use Rattle.numbers.proofs.Signed.{read_is}
use Rattle.dots_activation.specs.Whole.{elem, Within}
use Rattle.dots_activation.specs.Blocks.{sum_of_32, sums_right}
use Rattle.dots_activation.proofs.Magnitudes.{fits_within}
use Rattle.dots_activation.proofs.Tests.{eq_z_same, eq_z_not}
use Rattle.dots_activation.proofs.Pairs.{pairs_sum}
use Rattle.dots_activation.proofs.block.sums_right.Goals.{After-sum_of_32, Else-sum_of_32-bsums}
use Rattle.dots_activation.proofs.block.sums_right.Goals as goal

pub loop-j-init : goal.loop-j-init
loop-j-init c = (every_none _, below_none _)

pub overflow_cast-sum_of_32 : goal.overflow_cast-sum_of_32
overflow_cast-sum_of_32 c = rw (read_is w16 _ c.sum_of_32.type_inv) (fits_within c.sum_of_32.ensures.1 tt)

-- the turn's sum, as it is compared
sum_is : (c : After-sum_of_32)
    → to_z w16 (of_z w16 c.sum_of_32.result) ≡ sum_of_32 c.args.qs.now c.loop-j.j
sum_is c =
    let t = c.pairs-t in
    read_is w16 _ c.sum_of_32.type_inv ∙ c.sum_of_32.ensures.0 ∙ pairs_sum (elem c.args.qs.now) t.result c.loop-j.j t.ensures.0 (omega arith)

pub returns-then-sum_of_32-bsums : goal.returns-then-sum_of_32-bsums
unfolding sums_right
returns-then-sum_of_32-bsums c =
    (sym (every_not _ 8 c.loop-j.j (omega arith) (eq_z_not (sum_of_32 c.args.qs.now c.loop-j.j) (elem c.args.bsums.now c.loop-j.j) (λ e. c.if-sum_of_32-bsums.true (ap (of_z w32) (sum_is c.before.before ∙ e))))), λ e. absurd (false≢true e))

-- the claim is the sum
claimed : (c : Else-sum_of_32-bsums)
    → sum_of_32 c.args.qs.now c.loop-j.j ≡ elem c.args.bsums.now c.loop-j.j
claimed c =
    sym (sum_is c.before.before) ∙ sym (to_z-of_z w32 _ (overflow_cast-sum_of_32 c.before.before)) ∙ ap (to_z w32) c.if-sum_of_32-bsums.false ∙ read_is w32 _ c.t13-1.given

pub loop-j-preserved : goal.loop-j-preserved
loop-j-preserved c =
    let l = c.loop-j in
    let r = c.sum_of_32 in
    let e = claimed c in
    (every_more _ _ l.invariant.0 (rw e (eq_z_same (elem c.args.bsums.now l.j))), below_more _ _ l.invariant.1 (subst (Within 4096) (sym (read_is w16 _ r.type_inv) ∙ sum_is c.before.before ∙ e) r.ensures.1))

pub returns : goal.returns
unfolding sums_right
returns c =
    let l = c.loop-j in
    let e : l.j ≡ 8 = omega arith in
    (sym (rw e at l.invariant.0), λ _. record { near = λ k h. l.invariant.1 k (omega arith) })
