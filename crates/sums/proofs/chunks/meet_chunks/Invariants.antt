-- `chunks::meet_chunks` meets its contract. Assumes nothing.
use Rattle.sums.proofs.RowLaws.{Chunking}
use Rattle.sums.proofs.chunks.meet_chunks.Given as goal

abbrev pub invariant-loop-c : goal.invariant-loop-c
invariant-loop-c g l = Chunking g.p l.n l.initial.sums l.sums l.c
