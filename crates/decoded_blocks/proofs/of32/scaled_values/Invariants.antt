-- `of32::scaled_values` meets its contract: the places are filled in turn. Assumes nothing.
use Rattle.memory.proofs.Filled.{Filling}
use Rattle.decoded_blocks.proofs.Scaled.{at}
use Rattle.decoded_blocks.proofs.of32.scaled_values.Given as goal

abbrev pub invariant-loop-n : goal.invariant-loop-n
invariant-loop-n l = Filling (at l.s l.values) l.initial.scaled 16 l.scaled l.n
