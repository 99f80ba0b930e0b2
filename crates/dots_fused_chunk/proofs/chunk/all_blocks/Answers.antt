-- `chunk::all_blocks` meets its contract: the whole blocks, and after them the first places of one more. Assumes nothing.
use mathlib.Core.Path.{◌≡◌, ap, ◌∙◌}
use Prim.Native.Nat.{◌+◌, ◌-◌, ◌*◌, ◌/◌}
use lib.ListN.{length}
use Rattle.sums_lanes.specs.Lanes.{lanes}
use Rattle.dots_fused_block.specs.Terms.{terms}
use Rattle.dots_fused_chunk.proofs.Rows.{block_terms}
use Rattle.dots_fused_block.proofs.Grown.{run_more}
use native.Mathlib.Omega.{arith}
use Rattle.dots_fused_chunk.proofs.chunk.all_blocks.Goals as goal

pub returns-then-n-eq0 : goal.returns-then-n-eq0
returns-then-n-eq0 c =
    let a = c.args in
    let e : 256 * (length a.x.now / 256) ≡ length a.x.now = omega arith in
    c.whole_blocks-l.ensures ∙ ap (lanes (terms a.format a.x.now a.w.now)) e

pub returns : goal.returns
unfolding lanes
returns c =
    let size = c.block_bytes-size in
    let l = c.whole_blocks-l in
    let a = c.args in
    let n = length a.x.now in
    let b = n / 256 in
    run_more _ l.result _ (terms a.format a.x.now a.w.now) _ (256 * b) _ n (omega arith) (omega arith)
    (λ i h. block_terms a.format a.x.now a.w.now b (256 * b) (n - 256 * b) size.result (b * size.result + size.result - b * size.result) i size.ensures (omega arith) (omega arith) (omega arith) (omega arith))
    c.add_short.ensures l.ensures
