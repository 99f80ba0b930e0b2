-- `pieces::piece` meets its contract: a refusal, or one piece worked. Assumes nothing.
use mathlib.Core.Path.{◌∙◌}
use Rattle.refusals.proofs.Laws.{check_passed, refused_out, done_out}
use Rattle.stepped_shape.proofs.Shapes.{pieceable}
use Rattle.stepped_shape.proofs.Says.{by_unknown, by_known}
use Rattle.stepped_pieces.specs.Pieces.{piece_says}
use Rattle.stepped_pieces.proofs.pieces.piece.Goals as goal

pub returns-in_err-format : goal.returns-in_err-format
unfolding piece_says
returns-in_err-format c = by_unknown _ _ c.in_err-format.ensures c.from_residual.ensures.1

pub returns-in_err-piece_refusal : goal.returns-in_err-piece_refusal
unfolding piece_says
returns-in_err-piece_refusal c = refused_out _ _ c.in_err-piece_refusal.ensures c.from_residual-in_err-piece_refusal.ensures.1 ∙ by_known _ _ c.in_ok-format.ensures

pub work_one-requires : goal.work_one-requires
work_one-requires c =
    let p = pieceable _ _ _ _ _ _ _ _ (check_passed c.in_ok-piece_refusal.ensures) in
    (p.able.ready, p.able.has_room, p.inside)

pub returns : goal.returns
unfolding piece_says
returns c = rw c.work_one.ensures (done_out _ _ c.in_ok-piece_refusal.ensures ∙ by_known _ _ c.in_ok-format.ensures)
