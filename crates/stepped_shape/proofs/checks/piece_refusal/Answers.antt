-- `checks::piece_refusal` meets its contract: what run refuses, then the row, the chunk and the mark. Assumes nothing.
use Rattle.refusals.proofs.Laws.{first_handed_on}
use Rattle.stepped_shape.specs.Refusals.{piece_refusal}
use Rattle.stepped_shape.proofs.checks.piece_refusal.Goals as goal

pub returns-in_err-work_refusal : goal.returns-in_err-work_refusal
unfolding piece_refusal
returns-in_err-work_refusal c = first_handed_on _ c.in_err-work_refusal.ensures c.from_residual.ensures.1
