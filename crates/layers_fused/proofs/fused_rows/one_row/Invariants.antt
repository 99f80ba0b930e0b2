-- `fused_rows::one_row` meets its contract: one row's dot a turn. Assumes nothing.
use lib.ListN.{length}
use Rattle.memory.proofs.Filled.{Filling}
use Rattle.layers_fused.specs.Says.{fused_dot_at}
use Rattle.layers_fused.proofs.fused_rows.one_row.Given as goal

abbrev pub invariant-loop-o : goal.invariant-loop-o
invariant-loop-o l = Filling (fused_dot_at l.format l.x l.w (length l.x)) l.initial.y (length l.initial.y) l.y l.o
