-- `lanes::add_terms` meets its contract. Assumes nothing.
use mathlib.Core.Path.{◌≡◌}
use Prim.Native.Nat.{◌*◌}
use Rattle.sums_lanes.specs.Lanes.{lanes_from}
use Rattle.sums_lanes.proofs.lanes.add_terms.Given as goal

abbrev pub invariant-loop-b : goal.invariant-loop-b
invariant-loop-b g l = l.out ≡ lanes_from l.initial.out g.p (8 * l.b)

abbrev pub ghost-eight_terms : goal.ghost-eight_terms
ghost-eight_terms g a = g.p
