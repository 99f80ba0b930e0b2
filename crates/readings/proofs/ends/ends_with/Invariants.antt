-- `readings::ends_with` meets its contract: after some readings the loop holds the ends of those. Assumes nothing.
use mathlib.Core.Path.{◌≡◌}
use mathlib.Core.Bool.{true, false}
use Rattle.readings.specs.Inner.{furthest}
use Rattle.readings.proofs.ends.ends_with.Given as goal

abbrev pub invariant-loop-v : goal.invariant-loop-v
invariant-loop-v l = (l.high ≡ furthest false l.initial.high l.x l.v-index) × (l.low ≡ furthest true l.initial.low l.x l.v-index)
