-- `windows::has_zero` meets its contract: `found` says whether one of the first k values has all bits zero. Assumes nothing.
use mathlib.Core.Path.{refl, sym, ◌∙◌}
use Rattle.records.specs.Kinds.{has_zero}
use Rattle.records.proofs.Zeros.{zero_found, zero_keeps}
use Rattle.records.proofs.windows.has_zero.Goals.{then-bits_at-eq0, else-bits_at-eq0}
use Rattle.records.proofs.windows.has_zero.Goals as goal

pub loop-k-init : goal.loop-k-init
unfolding has_zero
loop-k-init c = refl

pub loop-k-preserved : goal.loop-k-preserved
loop-k-preserved c =
    let p = c.args.bytes.now in
    let l = c.loop-k in
    let e = c.bits_at.ensures in
    elim c.if-bits_at-eq0.branch [
      | then-bits_at-eq0 w ↦ w.found-is ∙ sym (zero_found p l.k (sym e ∙ w.if-bits_at-eq0.true))
      | else-bits_at-eq0 w ↦ w.found-is ∙ l.invariant ∙ sym (zero_keeps p l.k (λ z. w.if-bits_at-eq0.false (e ∙ z)))
    ]
