-- `payload::same_floats` meets its contract: every float passed is the same. Assumes nothing.
use mathlib.Core.Path.{◌≡◌}
use mathlib.Core.Bool.{true}
use Rattle.memory.specs.Lists.{every}
use Rattle.replay_answers.specs.Same.{same_float_at}
use Rattle.replay_answers.proofs.payload.same_floats.Given as goal

abbrev pub invariant-loop-i : goal.invariant-loop-i
invariant-loop-i l = every (same_float_at l.payload l.floats) l.i ≡ true
