-- `dot::row_dot` meets its contract. Assumes nothing.
use mathlib.Core.Path.{sym, ap, ◌∙◌}
use native.Mathlib.Omega.{arith}
use lib.ListN.{take}
use lib.Seq.{get_or-take, length-take-le}
use lib.Ieee.{nan}
use Rattle.sums_lanes.specs.Lanes.{products, chunk_sum}
use Rattle.sums.proofs.RowLaws.{chunk_cong, one_chunk}
use Rattle.sums.proofs.dot.row_dot.Goals as goal

pub slice_bounds-chunk_dot-end : goal.slice_bounds-chunk_dot-end
slice_bounds-chunk_dot-end c = sym (length-take-le _ _ (omega arith))

pub slice_bounds-chunk_dot-end-then-n-le-CHUNK : goal.slice_bounds-chunk_dot-end-then-n-le-CHUNK
slice_bounds-chunk_dot-end-then-n-le-CHUNK c = sym (length-take-le _ _ (omega arith))

pub chunk_dot-requires : goal.chunk_dot-requires
chunk_dot-requires c =
    let a = c.args in
    omega (arith, length-take-le a.n a.x.now (omega arith), length-take-le a.n a.w.now (omega arith))

pub returns-then-n-le-CHUNK : goal.returns-then-n-le-CHUNK
returns-then-n-le-CHUNK c =
    let a = c.args in
    let n = a.n in
    c.chunk_dot.ensures
    ∙ ap (chunk_sum (products (take n a.x.now) (take n a.w.now))) (length-take-le n a.x.now (omega arith))
    ∙ chunk_cong _ _ n (λ i h. rw (get_or-take n a.x.now i nan h, get_or-take n a.w.now i nan h))
    ∙ one_chunk (products a.x.now a.w.now) n (omega arith) (omega arith)
