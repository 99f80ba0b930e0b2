-- `readings::ends_of` meets its contract: the law of the eight lanes on either side, and the rest in order. Assumes nothing.
use mathlib.Core.Bool.{true, false}
use Prim.Native.Nat.{◌+◌, ◌*◌}
use Rattle.readings.proofs.EightLanes.{Lanes}
use Rattle.readings.proofs.ends.ends_of.Given as goal

abbrev pub invariant-loop-j : goal.invariant-loop-j
invariant-loop-j l = Lanes false l.x l.high (8 * l.t + l.j) × Lanes true l.x l.low (8 * l.t + l.j)

abbrev pub invariant-loop-t : goal.invariant-loop-t
invariant-loop-t l = Lanes false l.x l.high (8 * l.t) × Lanes true l.x l.low (8 * l.t)
