-- `dot::dot_of_chunk` meets its contract: its terms are the row's from the chunk's start on. Assumes nothing.
use mathlib.Core.Path.{◌∙◌}
use Prim.Native.Nat.{◌-◌, ◌*◌}
use native.Mathlib.Omega.{arith}
use Rattle.sums_lanes.specs.Lanes.{products}
use Rattle.sums_lanes.proofs.LaneLaws.{products_part}
use Rattle.sums.proofs.RowLaws.{chunk_part}
use Rattle.sums.proofs.dot.dot_of_chunk.Goals as goal

pub returns : goal.returns
returns c =
    let a = c.args in
    let s = 8192 * a.c in
    let k = c.chunk_end-e.result - s in
    c.chunk_dot.ensures ∙ chunk_part (products a.x.now a.w.now) _ a.n a.c _ (omega arith) (λ i h. products_part a.x.now a.w.now s k k i (omega arith) (omega arith))
