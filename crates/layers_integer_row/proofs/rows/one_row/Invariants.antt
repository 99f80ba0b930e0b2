-- `rows::one_row` meets its contract: one row of weights a turn. Assumes nothing.
use lib.ListN.{length}
use Rattle.memory.proofs.Filled.{Filling}
use Rattle.layers_integer_row.specs.Inner.{kept_row_dot}
use Rattle.layers_integer_row.proofs.rows.one_row.Given as goal

abbrev pub invariant-loop-o : goal.invariant-loop-o
invariant-loop-o l = Filling (kept_row_dot l.format l.meeting l.w l.kept (length l.initial.dots)) l.initial.y (length l.initial.y) l.y l.o
