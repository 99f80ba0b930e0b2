-- `kept::kept_row_dot` meets its contract: one block's dot a turn. Assumes nothing.
use lib.ListN.{length}
use Rattle.memory.proofs.Filled.{Filling}
use Rattle.dots_kept_row.specs.Inner.{kept_dot}
use Rattle.dots_kept_row.proofs.kept.kept_row_dot.Given as goal

abbrev pub invariant-loop-t : goal.invariant-loop-t
invariant-loop-t l = Filling (kept_dot l.format l.w l.kept) l.initial.dots (length l.initial.dots) l.dots l.t
