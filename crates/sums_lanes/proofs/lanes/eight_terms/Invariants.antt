-- `lanes::eight_terms` meets its contract. Assumes nothing.
use Prim.Native.Nat.{◌+◌}
use Rattle.sums_lanes.proofs.LaneLaws.{Adding}
use Rattle.sums_lanes.proofs.lanes.eight_terms.Given as goal

abbrev pub invariant-loop-i : goal.invariant-loop-i
invariant-loop-i g l = Adding l.initial.out (λ i. g.p (l.s + i)) l.count l.out l.i
