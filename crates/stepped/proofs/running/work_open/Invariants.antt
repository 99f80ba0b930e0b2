-- `running::work_open` meets its contract: each loop keeps the state that the visits so far give. Assumes nothing.
use Prim.Native.Nat.{◌≤◌}
use Rattle.stepped_shape.specs.Layer.{memory}
use Rattle.stepped.specs.Says.{work, visit_row, visit_rows}
use Rattle.stepped.proofs.Runs.{Kept}
use Rattle.stepped.proofs.running.work_open.Given as goal

abbrev pub invariant-loop-chunk : goal.invariant-loop-chunk
invariant-loop-chunk l =
    let m = memory l.initial.slots l.initial.marks in
    (l.chunk ≤ l.chunks) × Kept l.budget m (work (memory l.slots l.marks) l.done) (visit_row l.format l.l l.w l.x l.budget l.row l.chunk (work m l.initial.done))

abbrev pub invariant-rows : goal.invariant-rows
invariant-rows l =
    let m = memory l.initial.slots l.initial.marks in
    (l.row ≤ l.rows) × Kept l.budget m (work (memory l.slots l.marks) l.done) (visit_rows l.format l.l l.w l.x l.budget l.row (work m 0))
