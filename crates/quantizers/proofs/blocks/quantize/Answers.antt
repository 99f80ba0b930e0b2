-- `blocks::quantize` meets its contract: a refusal, or every block quantised. Assumes nothing.
use mathlib.Core.Path.{◌≡◌, sym, ◌∙◌}
use Prim.Native.Nat.{ℕ, ◌≤◌}
use borrow.Author.Tests.{ltb-false}
use Rattle.refusals.specs.Said.{done}
use Rattle.refusals.proofs.Laws.{given_passed, else_first, else_later, carried_value, check_passed, refused_out}
use Rattle.quantizers.specs.Says.{bytes_for, quantize_refusal, quantize_says}
use Rattle.quantizers.specs.declared.target.Target.{Target}
use Rattle.quantizers.proofs.blocks.quantize.Goals as goal

room_for_bytes : (t : Target) (n room : ℕ) → quantize_refusal t n room ≡ done → bytes_for t n ≤ room
unfolding quantize_refusal
room_for_bytes t n room e = ltb-false _ _ (given_passed _ _ _ _ (given_passed _ _ _ _ (given_passed _ _ _ _ e).1).1).0

pub returns-in_err-quantize_refusal : goal.returns-in_err-quantize_refusal
unfolding quantize_says
returns-in_err-quantize_refusal c = refused_out _ _ (sym (else_first _ _ _ (sym c.in_err-quantize_refusal.ensures))) c.from_residual.ensures.1

pub quantize_blocks-requires : goal.quantize_blocks-requires
quantize_blocks-requires c = room_for_bytes _ _ _ (check_passed c.in_ok-quantize_refusal.ensures)

pub returns : goal.returns
unfolding quantize_says
returns c =
    let q = c.quantize_blocks.ensures in
    cc (q.0, q.1) ∙ sym (carried_value _ _ _ _ (else_later _ _ (check_passed c.in_ok-quantize_refusal.ensures)))
