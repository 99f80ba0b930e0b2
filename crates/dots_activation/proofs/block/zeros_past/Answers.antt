-- `block::zeros_past` meets its contract: every place passed is below n or holds 0, or the answer is no already. Assumes nothing.
use mathlib.Core.Path.{◌≡◌, sym, ap, ◌∙◌}
use Prim.Native.Nat.{◌+◌, ◌-◌}
use native.Mathlib.Nat.{add-zero, add_assoc}
use native.Mathlib.Omega.{arith}
use lib.IntN.{ℤ, pos}
use lib.ListN.{get_or}
use mir.Syntax.{w8}
use mir.Val.{to_z, of_z}
use Rattle.memory.specs.Lists.{part}
use Rattle.memory.proofs.Every.{every_all, every_keeps, every_not}
use Rattle.memory.proofs.Filled.{part_at}
use Rattle.numbers.proofs.Signed.{read_is}
use Rattle.dots_activation.specs.Whole.{eq_z}
use Rattle.dots_activation.specs.Blocks.{past_is_zero}
use Rattle.dots_activation.proofs.Tests.{eq_z_not}
use Rattle.dots_activation.proofs.Past.{below_passes, past_is}
use Rattle.dots_activation.proofs.block.zeros_past.Goals.{then-q-ne0, else-q-ne0}
use Rattle.dots_activation.proofs.block.zeros_past.Goals as goal

pub loop-q-init : goal.loop-q-init
loop-q-init c = rw add-zero (sym (every_all _ _ (below_passes c.args.qs.now c.args.n)))

pub loop-q-preserved : goal.loop-q-preserved
loop-q-preserved c =
    let n = c.args.n in
    let i = n + c.loop-q.q-index in
    let p = past_is_zero c.args.qs.now n in
    let q = get_or (part c.args.qs.now n (256 - n)) c.loop-q.q-index (pos 0) in
    let past : p i ≡ eq_z q (pos 0) = past_is c.args.qs.now n i (omega arith) ∙ ap (λ (z : ℤ). eq_z z (pos 0)) (sym (part_at c.args.qs.now n (256 - n) c.loop-q.q-index (pos 0) (omega arith))) in
    rw (← add_assoc)
    (elim c.if-q-ne0.branch [
      | then-q-ne0 w ↦ w.zeros-is ∙ sym (every_not p (i + 1) i (omega arith) (past ∙ eq_z_not q (pos 0) (λ e. w.if-q-ne0.true (ap (of_z w8) e))))
      | else-q-ne0 w ↦ w.zeros-is ∙ c.loop-q.invariant ∙ sym (every_keeps p i (past ∙ ap (λ (z : ℤ). eq_z z (pos 0)) (sym (read_is w8 q c.q-1.given) ∙ ap (to_z w8) w.if-q-ne0.false)))
    ])
