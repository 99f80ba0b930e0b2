-- `outputs::close_rows` meets its contract: a row a turn. Assumes nothing.
use mathlib.Core.Path.{◌≡◌}
use Rattle.memory.specs.Lists.{filled}
use Rattle.stepped_pieces.specs.Pieces.{row_met}
use Rattle.fillin_window.proofs.outputs.close_rows.Given as goal

abbrev pub invariant-loop-row : goal.invariant-loop-row
invariant-loop-row l = l.y ≡ filled (row_met l.l l.slots) l.initial.y l.row
