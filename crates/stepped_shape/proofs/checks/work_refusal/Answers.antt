-- `checks::work_refusal` meets its contract: the shape, then weights, readings, slots and marks. Assumes nothing.
use Rattle.refusals.proofs.Laws.{first_handed_on, check_passed}
use Rattle.stepped_shape.specs.Refusals.{work_refusal}
use Rattle.stepped_shape.proofs.Shapes.{shaped}
use Rattle.stepped_shape.proofs.checks.work_refusal.Goals as goal

pub returns-in_err-shape_refusal : goal.returns-in_err-shape_refusal
unfolding work_refusal
returns-in_err-shape_refusal c = first_handed_on _ c.in_err-shape_refusal.ensures c.from_residual.ensures.1

pub weight_bytes-requires : goal.weight_bytes-requires
weight_bytes-requires c = let s = shaped _ (check_passed c.in_ok-shape_refusal.ensures) in (s.inputs, s.outputs)

pub layer_short-requires : goal.layer_short-requires
layer_short-requires c = let s = shaped _ (check_passed c.in_ok-shape_refusal.ensures) in (s.inputs, s.outputs)
