-- `blocks::convert` meets its contract: a refusal, or every block converted. Assumes nothing.
use mathlib.Core.Path.{ap, ◌∙◌}
use mathlib.Core.List.{List}
use Prim.Native.Nat.{ℕ}
use Rattle.refusals.specs.Said.{done}
use Rattle.refusals.proofs.Laws.{check_passed, refused_out, done_out}
use Rattle.converters.specs.Says.{convert_says}
use Rattle.converters.proofs.Refused.{whole_and_room}
use Rattle.converters.proofs.blocks.convert.Goals as goal

pub returns-in_err-convert_refusal : goal.returns-in_err-convert_refusal
unfolding convert_says
returns-in_err-convert_refusal c = refused_out _ _ c.in_err-convert_refusal.ensures c.from_residual.ensures.1

pub convert_blocks-requires : goal.convert_blocks-requires
convert_blocks-requires c = whole_and_room _ _ (check_passed c.in_ok-convert_refusal.ensures)

pub returns : goal.returns
unfolding convert_says
returns c =
    ap (λ (left : List ℕ). (done, left)) c.convert_blocks.ensures ∙ done_out _ _ c.in_ok-convert_refusal.ensures
