-- `row::integer_row` meets its contract: one block's dot a turn. Assumes nothing.
use Rattle.dots_integer_row.proofs.Rows.{Dots}
use Rattle.dots_integer_row.proofs.row.integer_row.Given as goal

abbrev pub invariant-loop-b : goal.invariant-loop-b
invariant-loop-b l = Dots l.format l.x l.w l.n l.initial.dots l.dots l.b
