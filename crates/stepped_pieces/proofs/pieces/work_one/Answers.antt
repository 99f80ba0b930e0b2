-- `pieces::work_one` meets its contract. Assumes nothing.
use Rattle.stepped_pieces.proofs.pieces.work_one.Goals as goal

pub returns : goal.returns
returns c = let at = c.place_of-at.ensures.0 in simp (at, c.chunk_sum.ensures)
