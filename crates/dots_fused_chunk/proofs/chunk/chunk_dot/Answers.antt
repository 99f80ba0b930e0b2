-- `chunk::chunk_dot` meets its contract: a chunk starts with a block, and its blocks' terms are the row's from there on. Assumes nothing.
use mathlib.Core.Path.{ap, ◌∙◌}
use Prim.Native.Nat.{◌-◌, ◌*◌, ◌/◌}
use Rattle.sums_tree.specs.Tree.{tree}
use Rattle.sums_lanes.specs.Lanes.{chunk_sum}
use Rattle.sums.proofs.RowLaws.{chunk_part}
use Rattle.dots_fused_block.specs.Terms.{terms}
use Rattle.dots_fused_chunk.proofs.Rows.{rest_terms}
use native.Mathlib.Omega.{arith}
use Rattle.dots_fused_chunk.proofs.chunk.chunk_dot.Goals as goal

pub returns : goal.returns
unfolding chunk_sum
returns c =
    let a = c.args in
    let s = 8192 * a.c in
    let e = c.chunk_end-e.result in
    c.tree8.ensures
    ∙ ap tree c.all_blocks.ensures
    ∙ chunk_part (terms a.format a.x.now a.w.now) _ a.n a.c _ (omega arith) (λ i h. rest_terms a.format a.x.now a.w.now (s / 256) s (e - s) c.block_bytes.result i c.block_bytes.ensures (omega arith) (omega arith))
