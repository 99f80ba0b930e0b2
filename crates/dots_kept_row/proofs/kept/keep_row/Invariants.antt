-- `kept::keep_row` meets its contract: one block a turn. Assumes nothing.
use Rattle.dots_kept_row.specs.Inner.{Keeps}
use Rattle.dots_kept_row.proofs.kept.keep_row.Given as goal

abbrev pub invariant-loop-t : goal.invariant-loop-t
invariant-loop-t l = Keeps l.x l.t l.kept
