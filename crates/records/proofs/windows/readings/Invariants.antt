-- `windows::readings` meets its contract: the first k places are filled. Assumes nothing.
use lib.ListN.{length}
use Rattle.memory.proofs.Filled.{Filling}
use Rattle.records.specs.Kinds.{reading_at}
use Rattle.records.proofs.windows.readings.Given as goal

abbrev pub invariant-loop-k : goal.invariant-loop-k
invariant-loop-k l = Filling (reading_at l.bytes) l.initial.x (length l.initial.x) l.x l.k
