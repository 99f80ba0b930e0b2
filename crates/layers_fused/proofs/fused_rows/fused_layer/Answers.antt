-- `fused_rows::fused_layer` meets its contract: a refusal, or every output. Assumes nothing.
use Rattle.refusals.proofs.Laws.{check_passed, refused_out}
use Rattle.layers_fused.specs.Says.{fused_layer_says}
use Rattle.layers_fused.proofs.fused_rows.fused_layer.Goals as goal

pub returns-in_err-layer_refusal : goal.returns-in_err-layer_refusal
unfolding fused_layer_says
returns-in_err-layer_refusal c = refused_out _ _ c.in_err-layer_refusal.ensures c.from_residual.ensures.1

pub all_rows-requires : goal.all_rows-requires
all_rows-requires c = check_passed c.in_ok-layer_refusal.ensures
