-- The contract of `piece` is met by one answer alone, and by one content of its lent memory. Assumes nothing.
use Rattle.refusals.proofs.Once.{OneCall, both}
use Rattle.stepped_shape.specs.Layer.{memory}
use Rattle.stepped_pieces.proofs.pieces.piece.Reads as piece

pub piece_once : OneCall piece.Post (λ κs s. memory s.1.1.1.1.1.0.now s.1.1.1.1.1.1.0.now)
piece_once κs a x y s t h k = both h k
