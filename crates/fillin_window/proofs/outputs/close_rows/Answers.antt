-- `outputs::close_rows` meets its contract: a row a turn. Assumes nothing.
use mathlib.Core.Path.{sym, ap, ◌∙◌}
use native.Mathlib.Omega.{arith}
use mathlib.Core.List.{List}
use lib.ListN.{set}
use lib.Ieee.{Float, nan}
use Rattle.refusals.proofs.Laws.{never_refused}
use Rattle.memory.proofs.Filled.{filled_none, filled_more}
use Rattle.stepped_shape.specs.Layer.{memory}
use Rattle.stepped_pieces.specs.Pieces.{row_met}
use Rattle.fillin_window.proofs.Rows.{closing}
use Rattle.fillin_window.proofs.outputs.close_rows.Goals as goal

pub loop-row-init : goal.loop-row-init
loop-row-init c = filled_none _ _

pub returns-in_err-close : goal.returns-in_err-close
returns-in_err-close c =
    let k = closing c.args.l (memory c.args.slots.now c.args.marks.now) c.loop-row.y c.loop-row.row c.requires.0 (omega arith) c.loop-row-test.true c.close.ensures in
    absurd (never_refused k.0 (sym c.in_err-close.was))

pub loop-row-preserved : goal.loop-row-preserved
loop-row-preserved c =
    let a = c.args in
    let l = c.loop-row in
    let k = closing a.l (memory a.slots.now a.marks.now) l.y l.row c.requires.0 (omega arith) c.loop-row-test.true c.close.ensures in
    k.1 ∙ ap (λ (ys : List Float). set ys l.row (row_met a.l a.slots.now l.row)) l.invariant ∙ filled_more (row_met a.l a.slots.now) a.y.now l.row nan (omega arith)
