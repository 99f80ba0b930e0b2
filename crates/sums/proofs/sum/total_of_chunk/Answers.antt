-- `sum::total_of_chunk` meets its contract: its terms are the row's from the chunk's start on. Assumes nothing.
use mathlib.Core.Path.{◌∙◌}
use Prim.Native.Nat.{◌-◌, ◌*◌}
use native.Mathlib.Omega.{arith}
use Rattle.sums_lanes.specs.Lanes.{values}
use Rattle.sums_lanes.proofs.LaneLaws.{values_part}
use Rattle.sums.proofs.RowLaws.{chunk_part}
use Rattle.sums.proofs.sum.total_of_chunk.Goals as goal

pub returns : goal.returns
returns c =
    let a = c.args in
    let s = 8192 * a.c in
    c.chunk_total.ensures ∙ chunk_part (values a.x.now) _ a.n a.c _ (omega arith) (λ i h. values_part a.x.now s (c.chunk_end-e.result - s) i (omega arith))
