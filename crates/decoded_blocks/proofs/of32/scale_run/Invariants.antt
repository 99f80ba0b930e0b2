-- `of32::scale_run` meets its contract: the places are filled in turn. Assumes nothing.
use Rattle.memory.proofs.Filled.{Filling}
use Rattle.decoded_blocks.proofs.Scaled.{at}
use Rattle.decoded_blocks.proofs.of32.scale_run.Given as goal

abbrev pub invariant-loop-l : goal.invariant-loop-l
invariant-loop-l l = Filling (at l.s l.q) l.initial.out 16 l.out l.l
