-- `of32::decode_q8_0` meets its contract: the places are filled in turn. Assumes nothing.
use Rattle.memory.proofs.Filled.{Filling}
use Rattle.decoded_blocks.proofs.Scaled.{at}
use Rattle.decoded_blocks.proofs.of32.decode_q8_0.Given as goal

abbrev pub invariant-loop-k : goal.invariant-loop-k
invariant-loop-k l = Filling (at l.s l.q) l.initial.out 32 l.out l.k
