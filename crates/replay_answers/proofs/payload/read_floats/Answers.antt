-- `payload::read_floats` meets its contract: it fills its places from the front. Assumes nothing.
use mathlib.Core.Path.{refl, ap, ◌∙◌}
use native.Mathlib.Omega.{arith}
use lib.Ieee.{binary32, of_bits}
use Rattle.memory.proofs.Filled.{filling_start, filling_more}
use Rattle.replay_answers.specs.Payload.{float_at}
use Rattle.replay_answers.proofs.payload.read_floats.Goals as goal

pub loop-i-init : goal.loop-i-init
loop-i-init c = filling_start _ _ _ refl

pub loop-i-preserved : goal.loop-i-preserved
unfolding float_at
loop-i-preserved c = filling_more _ _ _ _ _ _ refl c.loop-i.invariant (omega arith) (c.of_bits.ensures ∙ ap (of_bits binary32) c.u32_at.ensures)
