-- `running::run` meets its contract: a refusal, or the next open pieces worked and the marks counted. Assumes nothing.
use native.Mathlib.Omega.{arith}
use mathlib.Core.Path.{sym, ◌∙◌, ap}
use Prim.Native.Nat.{ℕ}
use lib.ListN.{take}
use lib.Seq.{length-take-le}
use Rattle.refusals.proofs.Laws.{else_first, check_passed, refused_out}
use Rattle.stepped_shape.specs.Layer.{memory, open_count, open_of}
use Rattle.stepped_shape.proofs.Shapes.{workable, few_pieces}
use Rattle.stepped_shape.proofs.Says.{by_unknown, by_known}
use Rattle.stepped.specs.Says.{work, run_says}
use Rattle.stepped.proofs.Counts.{run_done}
use Rattle.stepped.proofs.running.run.Goals as goal

pub returns-in_err-format : goal.returns-in_err-format
unfolding run_says
returns-in_err-format c = by_unknown _ _ c.in_err-format.ensures c.from_residual.ensures.1

pub returns-in_err-work_refusal : goal.returns-in_err-work_refusal
unfolding run_says
returns-in_err-work_refusal c =
    refused_out _ _ (sym (else_first _ _ _ (sym c.in_err-work_refusal.ensures))) c.from_residual-in_err-work_refusal.ensures.1
    ∙ by_known _ _ c.in_ok-format.ensures

pub work_open-done-requires : goal.work_open-done-requires
work_open-done-requires c = let r = workable _ _ _ _ _ _ (check_passed c.in_ok-work_refusal.ensures) in (r.ready, r.has_room)

pub pieces_of-n-requires : goal.pieces_of-n-requires
pieces_of-n-requires c = (workable _ _ _ _ _ _ (check_passed c.in_ok-work_refusal.ensures)).ready.shape

pub slice_bounds-count_open-end : goal.slice_bounds-count_open-end
slice_bounds-count_open-end c = omega (arith, c.pieces_of-n.ensures, c.work_open-done.auto.marks, (workable _ _ _ _ _ _ (check_passed c.in_ok-work_refusal.ensures)).has_room.marks_enough)

pub slice_bounds-count_open-end-2 : goal.slice_bounds-count_open-end-2
slice_bounds-count_open-end-2 c = sym (length-take-le _ _ (omega (arith, c.pieces_of-n.ensures, c.work_open-done.auto.marks, (workable _ _ _ _ _ _ (check_passed c.in_ok-work_refusal.ensures)).has_room.marks_enough)))

pub count_open-left-requires : goal.count_open-left-requires
count_open-left-requires c =
    let r = workable _ _ _ _ _ _ (check_passed c.in_ok-work_refusal.ensures) in
    rw (length-take-le c.pieces_of-n.result c.work_open-done.new.marks (omega (arith, c.pieces_of-n.ensures, c.work_open-done.auto.marks, r.has_room.marks_enough)))
    (omega (arith, c.pieces_of-n.ensures, few_pieces _ r.ready.shape))

pub returns : goal.returns
unfolding open_of
returns c =
    let a = c.args in
    let left = c.count_open-left.ensures ∙ ap (λ (n : ℕ). open_count (take n c.work_open-done.new.marks)) c.pieces_of-n.ensures in
    run_done _ a.l a.w.now a.x.now a.budget (memory a.slots.now a.marks.now) (work (memory _ _) _) _
    c.in_ok-format.ensures (check_passed c.in_ok-work_refusal.ensures) c.work_open-done.ensures left
