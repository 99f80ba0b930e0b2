-- `tree::canonical_combine` meets its contract. Assumes nothing.
use mathlib.Core.Path.{◌≡◌}
use Prim.Native.Nat.{◌≤◌}
use lib.ListN.{length}
use Rattle.sums_tree.proofs.TreeLaws.{Underway}
use Rattle.sums_tree.proofs.tree.canonical_combine.Given as goal

abbrev pub invariant-loop-len : goal.invariant-loop-len
invariant-loop-len l = (1 ≤ l.len) × (l.len ≤ length l.part) × (length l.part ≡ length l.initial.part) × Underway l.initial.part l.part l.len

abbrev pub decreases-loop-len : goal.decreases-loop-len
decreases-loop-len l = l.len
