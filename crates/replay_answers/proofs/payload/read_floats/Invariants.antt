-- `payload::read_floats` meets its contract: it fills its places from the front. Assumes nothing.
use lib.ListN.{length}
use Rattle.memory.proofs.Filled.{Filling}
use Rattle.replay_answers.specs.Payload.{float_at}
use Rattle.replay_answers.proofs.payload.read_floats.Given as goal

abbrev pub invariant-loop-i : goal.invariant-loop-i
invariant-loop-i l = Filling (float_at l.payload) l.initial.out (length l.initial.out) l.out l.i
