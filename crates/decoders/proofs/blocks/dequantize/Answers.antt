-- `blocks::dequantize` meets its contract: a refusal, or every block decoded. Assumes nothing.
use mathlib.Core.Path.{ap, ◌∙◌}
use mathlib.Core.List.{List}
use lib.Ieee.{Float}
use Rattle.refusals.specs.Said.{done}
use Rattle.refusals.proofs.Laws.{check_passed, refused_out, done_out}
use Rattle.decoders.specs.Says.{dequantize_says}
use Rattle.decoders.proofs.Refused.{room_for_values}
use Rattle.decoders.proofs.blocks.dequantize.Goals as goal

pub returns-in_err-dequantize_refusal : goal.returns-in_err-dequantize_refusal
unfolding dequantize_says
returns-in_err-dequantize_refusal c = refused_out _ _ c.in_err-dequantize_refusal.ensures c.from_residual.ensures.1

pub decode_blocks-requires : goal.decode_blocks-requires
decode_blocks-requires c = room_for_values _ _ _ (check_passed c.in_ok-dequantize_refusal.ensures)

pub returns : goal.returns
unfolding dequantize_says
returns c =
    ap (λ (left : List Float). (done, left)) c.decode_blocks.ensures ∙ done_out _ _ c.in_ok-dequantize_refusal.ensures
