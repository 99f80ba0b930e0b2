-- `checks::open_refusal` meets its contract: the shape, then slots and marks. Assumes nothing.
use Rattle.refusals.proofs.Laws.{first_handed_on}
use Rattle.stepped_shape.specs.Refusals.{open_refusal}
use Rattle.stepped_shape.proofs.checks.open_refusal.Goals as goal

pub returns-in_err-shape_refusal : goal.returns-in_err-shape_refusal
unfolding open_refusal
returns-in_err-shape_refusal c = first_handed_on _ c.in_err-shape_refusal.ensures c.from_residual.ensures.1
