-- `closing::close` meets its contract: a refusal, or the row's output written. Assumes nothing.
use native.Mathlib.Omega.{arith}
use mathlib.Core.Path.{◌∙◌}
use Rattle.refusals.proofs.Laws.{check_passed, refused_out, done_out}
use Rattle.stepped_shape.proofs.Shapes.{closable}
use Rattle.stepped_shape.proofs.Says.{by_unknown, by_known}
use Rattle.stepped.specs.Says.{close_says}
use Rattle.stepped.proofs.closing.close.Goals as goal

pub returns-in_err-try_from : goal.returns-in_err-try_from
unfolding close_says
returns-in_err-try_from c = by_unknown _ _ c.in_err-try_from.ensures c.from_residual.ensures.1

pub returns-in_err-close_refusal : goal.returns-in_err-close_refusal
unfolding close_says
returns-in_err-close_refusal c = refused_out _ _ c.in_err-close_refusal.ensures c.from_residual-in_err-close_refusal.ensures.1 ∙ by_known _ _ c.in_ok-try_from.ensures

pub meet-requires : goal.meet-requires
meet-requires c = let r = closable _ _ _ _ _ (check_passed c.in_ok-close_refusal.ensures) in (r.able.shape, r.row_in, r.able.has_room.slots_enough)

pub offset_bounds-y-row : goal.offset_bounds-y-row
offset_bounds-y-row c = let r = closable _ _ _ _ _ (check_passed c.in_ok-close_refusal.ensures) in omega (arith, r.row_in, r.outputs_enough)

pub bounds-y-row : goal.bounds-y-row
bounds-y-row c = let r = closable _ _ _ _ _ (check_passed c.in_ok-close_refusal.ensures) in omega (arith, r.row_in, r.outputs_enough)

pub returns : goal.returns
unfolding close_says
returns c = rw c.meet.ensures (done_out _ _ c.in_ok-close_refusal.ensures ∙ by_known _ _ c.in_ok-try_from.ensures)
