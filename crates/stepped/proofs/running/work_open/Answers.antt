-- `running::work_open` meets its contract: each loop keeps the state that the visits so far give. Assumes nothing.
use native.Mathlib.Omega.{arith}
use mathlib.Core.Path.{◌≡◌, refl, sym, ◌∙◌, ap}
use Prim.Native.Nat.{ℕ, ◌<◌}
use Rattle.stepped_shape.specs.declared.shape.Layer.{Layer}
use Rattle.stepped_shape.specs.Layer.{memory, chunks}
use Rattle.stepped_shape.specs.Inner.{InLayer}
use Rattle.stepped_shape.proofs.Shapes.{place_within}
use Rattle.stepped.specs.Says.{work, visit_row, visit_rows, run_work}
use Rattle.stepped.proofs.Runs.{kept_open, kept_done, kept_row, stopped, ne_lt}
use Rattle.stepped.proofs.running.work_open.Goals.{then-marks-at-eq0, else-marks-at-eq0}
use Rattle.stepped.proofs.running.work_open.Goals as goal

pub rows-init : goal.rows-init
unfolding visit_rows
rows-init c = (omega arith, record { slots_len = refl; marks_len = refl; few = omega arith; state = refl })

pub loop-chunk-init : goal.loop-chunk-init
unfolding visit_row
loop-chunk-init c = (omega arith, record { slots_len = refl; marks_len = refl; few = c.rows.invariant.1.few; state = refl })

pub place_of-at-requires : goal.place_of-at-requires
place_of-at-requires c = (c.requires.0.shape, record { row_in = c.rows-test.true; chunk_in = omega (arith, c.chunks_of-chunks.ensures, c.loop-chunk-test.true) })

-- the piece that is looked at
inside : (l : Layer) (row chunk n : ℕ) → row < l.out_feat → n ≡ chunks l → chunk < n → InLayer l row chunk
inside l row chunk n h e k = record { row_in = h; chunk_in = omega (arith, e, k) }

pub bounds-marks-at : goal.bounds-marks-at
bounds-marks-at c =
    let i = inside _ _ _ _ c.rows-test.true c.chunks_of-chunks.ensures c.loop-chunk-test.true in
    omega (arith, c.place_of-at.ensures, place_within _ _ _ i, c.requires.1.marks_enough, c.loop-chunk.invariant.1.marks_len, c.rows.invariant.1.marks_len)

pub work_one-requires : goal.work_one-requires
work_one-requires c =
    let o = c.rows.invariant.1 in
    let i = c.loop-chunk.invariant.1 in (
      c.requires.0,
      record {
        slots_enough = omega (arith, c.requires.1.slots_enough, i.slots_len, o.slots_len);
        marks_enough = omega (arith, c.requires.1.marks_enough, i.marks_len, o.marks_len);
      },
      inside _ _ _ _ c.rows-test.true c.chunks_of-chunks.ensures c.loop-chunk-test.true,
    )

pub overflow_add-done : goal.overflow_add-done
overflow_add-done c = omega (arith, ne_lt _ _ c.loop-chunk.invariant.1.few c.if-done-budget.false, c.ranges.budget)

pub loop-chunk-preserved : goal.loop-chunk-preserved
loop-chunk-preserved c =
    let a = c.args in
    let o = c.rows in
    let i = c.loop-chunk in
    let b = work (memory o.slots o.marks) o.done in
    let k = work (memory i.slots i.marks) i.done in
    let fewer = ne_lt _ _ i.invariant.1.few c.if-done-budget.false in
    let at = c.place_of-at.ensures.0 in (
      omega arith,
      elim c.if-marks-at-eq0.branch [
        | then-marks-at-eq0 q ↦
            simp (q.slots-is, q.marks-is, q.done-is, q.work_one.ensures)
            (kept_open a.format a.l a.w.now a.x.now a.budget b.holds k o.row i.chunk b i.invariant.1 fewer (simp at at q.if-marks-at-eq0.true))
        | else-marks-at-eq0 q ↦
            simp (q.slots-is, q.marks-is, q.done-is)
            (kept_done a.format a.l a.w.now a.x.now a.budget b.holds k o.row i.chunk b i.invariant.1 fewer (simp at at q.if-marks-at-eq0.false))
      ],
    )

pub rows-preserved : goal.rows-preserved
rows-preserved c =
    let i = c.loop-chunk in
    let a = c.args in
    let full : i.chunk ≡ c.chunks_of-chunks.result = omega arith in (
      omega arith,
      kept_row a.format a.l a.w.now a.x.now a.budget _ _ _ c.rows.row i.chunk _
          c.rows.invariant.1 (full ∙ c.chunks_of-chunks.ensures) i.invariant.1,
    )

pub shape_of-slots-after-rows : goal.shape_of-slots-after-rows
shape_of-slots-after-rows c = c.rows.invariant.1.slots_len

pub shape_of-marks-after-rows : goal.shape_of-marks-after-rows
shape_of-marks-after-rows c = c.rows.invariant.1.marks_len

pub returns-after-rows : goal.returns-after-rows
unfolding run_work
returns-after-rows c =
    let full : c.rows.row ≡ c.args.l.out_feat = omega arith in
    simp full at c.rows.invariant.1.state

pub shape_of-slots-then-done-budget : goal.shape_of-slots-then-done-budget
shape_of-slots-then-done-budget c = c.loop-chunk.invariant.1.slots_len ∙ c.rows.invariant.1.slots_len

pub shape_of-marks-then-done-budget : goal.shape_of-marks-then-done-budget
shape_of-marks-then-done-budget c = c.loop-chunk.invariant.1.marks_len ∙ c.rows.invariant.1.marks_len

pub returns-then-done-budget : goal.returns-then-done-budget
unfolding run_work
returns-then-done-budget c =
    let a = c.args in
    let e = c.loop-chunk.invariant.1.state ∙ ap (visit_row a.format a.l a.w.now a.x.now a.budget c.rows.row c.loop-chunk.chunk) c.rows.invariant.1.state in
    sym
    (stopped a.format a.l a.w.now a.x.now a.budget _ (omega arith) a.l.out_feat c.rows.row c.loop-chunk.chunk _
    (omega arith) (omega (arith, c.chunks_of-chunks.ensures)) (sym e))
