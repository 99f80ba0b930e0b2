-- `nearest_to` meets its contract: the search counts the values whose next is nearer. Assumes nothing.
use mathlib.Core.Path.{◌≡◌}
use Prim.Native.Nat.{◌≤◌}
use Rattle.nearest.specs.Inner.{nearer_next}
use Rattle.nearest.proofs.nearest_to.Given as goal

abbrev pub invariant-loop-k : goal.invariant-loop-k
invariant-loop-k l = (l.n ≡ nearer_next l.q l.k) × (l.n ≤ l.k) × (l.k ≤ 15)
