-- `tree::round` meets its contract. Assumes nothing.
use lib.ListN.{length}
use Rattle.memory.proofs.Filled.{Filling}
use Rattle.sums_tree.proofs.TreeLaws.{sum_at}
use Rattle.sums_tree.proofs.tree.round.Given as goal

abbrev pub invariant-loop-t : goal.invariant-loop-t
invariant-loop-t l = Filling (sum_at l.initial.part l.len) l.initial.part (length l.initial.part) l.part l.t
