-- `of32::scale_quants` meets its contract: in turn e the run of 16 from 16 e on is filled. Assumes nothing.
use Prim.Native.Nat.{◌*◌}
use Rattle.memory.proofs.Parts.{InParts}
use Rattle.decoded_blocks.proofs.Scaled.{at}
use Rattle.decoded_blocks.proofs.of32.scale_quants.Given as goal

abbrev pub invariant-loop-e : goal.invariant-loop-e
invariant-loop-e l = InParts (at l.s l.q) l.initial.out (λ r. 16 * r) 2 l.out l.e
