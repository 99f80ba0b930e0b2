-- `fused_rows::one_row` meets its contract: one row's dot a turn. Assumes nothing.
use mathlib.Core.Path.{◌≡◌, refl, ◌∙◌}
use lib.ListN.{length}
use Rattle.std.proofs.Common.{Ok}
use Rattle.refusals.proofs.Laws.{never_refused}
use Rattle.memory.proofs.Filled.{filling_start, filling_more, filling_done}
use Rattle.layers_fused.specs.Says.{fused_dot_at}
use Rattle.layers_fused.proofs.RowDots.{row_in, dot_said}
use Rattle.layers_fused.proofs.fused_rows.one_row.Goals as goal

pub loop-o-init : goal.loop-o-init
loop-o-init c = filling_start _ _ _ refl

pub returns-in_err-value : goal.returns-in_err-value
returns-in_err-value c =
    let e = c.row_bytes-size.ensures in
    let room = (row_in _ _ _ _ _ _ e c.requires.0 c.loop-o-test.true c.requires.3).0 in
    absurd (never_refused (dot_said _ _ _ _ _ e c.requires.0 c.requires.1 room) c.in_err-value.ensures)

pub loop-o-preserved : goal.loop-o-preserved
loop-o-preserved c =
    let a = c.args in
    let n = length a.x.now in
    let l = c.loop-o in
    let e = c.row_bytes-size.ensures in
    let room = (row_in _ _ _ _ _ _ e c.requires.0 c.loop-o-test.true c.requires.3).0 in
    let said : Ok c.in_ok-value.value ≡ Ok (fused_dot_at a.format a.x.now a.w.now n l.o) =
    c.in_ok-value.ensures ∙ dot_said _ _ _ _ _ e c.requires.0 c.requires.1 room in
    filling_more (fused_dot_at a.format a.x.now a.w.now n) a.y.now (length a.y.now) l.y l.o _ refl l.invariant c.loop-o-test.true cc

pub returns : goal.returns
returns c =
    let a = c.args in
    (refl, filling_done (fused_dot_at a.format a.x.now a.w.now (length a.x.now)) a.y.now (length a.y.now) c.loop-o.y c.loop-o.o refl c.loop-o.invariant c.loop-o-test.false)
