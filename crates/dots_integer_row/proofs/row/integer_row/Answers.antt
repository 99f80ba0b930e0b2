-- `row::integer_row` meets its contract: one block's dot a turn. Assumes nothing.
use mathlib.Core.Path.{refl, sym, ◌∙◌}
use Prim.Native.Nat.{◌+◌, ◌-◌, ◌*◌}
use native.Mathlib.Omega.{arith}
use lib.Seq.{length-take-le}
use Rattle.memory.proofs.Filled.{part_length}
use Rattle.dots_integer.proofs.Bounds.{made_long, made_small}
use Rattle.dots_integer_row.proofs.Rows.{lies, block_is, dots_start, dots_more, dots_met}
use Rattle.dots_integer_row.proofs.row.integer_row.Goals as goal

pub loop-b-init : goal.loop-b-init
loop-b-init c = dots_start _ _ _ _ _ refl

pub quantized_block-block-requires : goal.quantized_block-block-requires
quantized_block-block-requires c =
    let s = 256 * c.loop-b.b in
    omega (arith, part_length c.args.x.now s (c.block_end-e.result - s) c.block_end-e.result (omega arith) (omega arith))

pub slice_bounds-block_dot-end-in-loop-b : goal.slice_bounds-block_dot-end-in-loop-b
slice_bounds-block_dot-end-in-loop-b c = sym (made_long _ c.quantized_block-block.ensures).0

pub slice_bounds-block_dot-end-in-loop-b-2 : goal.slice_bounds-block_dot-end-in-loop-b-2
slice_bounds-block_dot-end-in-loop-b-2 c = sym (made_long _ c.quantized_block-block.ensures).1

pub block_dot-requires : goal.block_dot-requires
block_dot-requires c =
    let size = c.block_bytes-size.result in
    let from = c.loop-b.b * size in
    let long = made_long _ c.quantized_block-block.ensures in
    let here = lies c.args.format c.args.w.now c.args.n c.block_bytes-size.ensures c.requires.2 c.blocks_in-blocks.ensures c.loop-b-test.true in
    (part_length c.args.w.now from size (from + size) refl here ∙ c.block_bytes-size.ensures, long.0, long.1, λ _. made_small _ c.quantized_block-block.ensures)

pub loop-b-preserved : goal.loop-b-preserved
loop-b-preserved c =
    let q = c.quantized_block-block in
    let e = c.block_end-e in
    let size = c.block_bytes-size in
    let v = c.block_dot.ensures ∙ block_is c.args.format c.args.x.now c.args.w.now c.args.n c.loop-b.b e.result size.result q.result size.ensures e.ensures.0 q.ensures in
    dots_more c.args.format c.args.x.now c.args.w.now c.args.n _ c.loop-b.dots c.loop-b.b _ refl (omega arith) (omega arith) v c.loop-b.invariant

pub slice_bounds-canonical_combine-end : goal.slice_bounds-canonical_combine-end
slice_bounds-canonical_combine-end c = sym (length-take-le c.blocks_in-blocks.result c.loop-b.dots (omega arith))

pub returns : goal.returns
returns c =
    dots_met c.args.format c.args.x.now c.args.w.now c.args.n _ c.loop-b.dots _ c.loop-b.b c.blocks_in-blocks.result _ (omega arith) c.blocks_in-blocks.ensures c.canonical_combine.ensures c.loop-b.invariant
