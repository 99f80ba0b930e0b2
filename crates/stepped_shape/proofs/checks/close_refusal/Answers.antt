-- `checks::close_refusal` meets its contract: what open refuses, then the output, the row and its marks. Assumes nothing.
use Rattle.refusals.proofs.Laws.{first_handed_on}
use Rattle.stepped_shape.specs.Refusals.{close_refusal}
use Rattle.stepped_shape.proofs.checks.close_refusal.Goals as goal

pub returns-in_err-open_refusal : goal.returns-in_err-open_refusal
unfolding close_refusal
returns-in_err-open_refusal c = first_handed_on _ c.in_err-open_refusal.ensures c.from_residual.ensures.1
