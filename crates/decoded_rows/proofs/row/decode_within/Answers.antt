-- `row::decode_within` meets its contract: the block is decoded as a whole, and the places that are asked for are taken from it. Assumes nothing.
use mathlib.Core.Path.{◌≡◌, refl, sym, ap, ◌∙◌}
use Prim.Native.Nat.{ℕ, ◌+◌, ◌<◌}
use native.Mathlib.Nat.{le_of_eq}
use native.Mathlib.Omega.{arith}
use mathlib.Core.List.{List, ◌++◌}
use lib.ListN.{length, take, get_or, replicate, get_or-append}
use lib.Seq.{length-take-le}
use lib.Ieee.{Float, nan}
use Rattle.memory.specs.Lists.{table, filled}
use Rattle.memory.proofs.Filled.{filled_all, length_table, get_or_table, table_ext, filling_start, filling_more, filling_done}
use Rattle.numbers.specs.Steps.{nought}
use Rattle.layouts.specs.Formats.{block_values}
use Rattle.layouts.specs.declared.format.Format.{Format}
use Rattle.layouts.specs.Weights.{value_in, weight_at}
use Rattle.layouts.proofs.Sizes.{sizes}
use Rattle.decoded_rows.proofs.WholeRows.{block_values_lem, block_weight}
use Rattle.decoded_rows.proofs.row.decode_within.Goals as goal

-- a block's values fit the array, and are as many as its front
front : (f : Format) (v : ℕ) → v ≡ block_values f → length (take v (replicate 256 nought)) ≡ v
front f v e = length-take-le v (replicate 256 nought) (omega (arith, sizes f, e))

pub slice_bounds-whole-end : goal.slice_bounds-whole-end
slice_bounds-whole-end c = omega (arith, sizes c.args.format, c.block_values-values.ensures)

pub slice_bounds-decode_blocks-end : goal.slice_bounds-decode_blocks-end
slice_bounds-decode_blocks-end c = sym (front c.args.format _ c.block_values-values.ensures)

pub decode_blocks-requires : goal.decode_blocks-requires
decode_blocks-requires c =
    le_of_eq (block_values_lem c.args.format c.args.block.now c.requires.0 ∙ sym c.block_values-values.ensures ∙ sym (front c.args.format _ c.block_values-values.ensures))

pub loop-i-init : goal.loop-i-init
loop-i-init c = filling_start _ _ _ refl

pub loop-i-preserved : goal.loop-i-preserved
loop-i-preserved c = let l = c.loop-i in filling_more _ _ _ l.out l.i _ refl l.invariant (omega arith) refl

-- a place of a list that begins with a table
place_at : (f : ℕ → Float) (ys rest : List Float) (v k : ℕ) → ys ≡ table f v → k < v → get_or (ys ++ rest) k nan ≡ f k
place_at f ys rest v k e h = rw e (get_or-append (table f v) rest nan k (rw length_table h) ∙ get_or_table f v k nan h)

pub returns : goal.returns
returns c =
    let l = c.loop-i in
    let d = c.decode_blocks in
    let block = c.args.block.now in
    let f = value_in c.args.format block in
    let v = block_values c.args.format in
    let made : d.new.out ≡ table f v =
    d.ensures
    ∙ ap (filled (weight_at c.args.format block) _) (block_values_lem c.args.format block c.requires.0)
    ∙ filled_all (weight_at c.args.format block) _ v (le_of_eq (front c.args.format _ c.block_values-values.ensures ∙ c.block_values-values.ensures))
    ∙ table_ext (weight_at c.args.format block) f v (block_weight c.args.format block c.requires.0) in
    filling_done _ _ (length c.args.out.now) l.out l.i refl l.invariant (omega arith)
    ∙ table_ext _ (λ i. f (c.args.from + i)) (length c.args.out.now) (λ i h. place_at f d.new.out _ v (c.args.from + i) made (omega (arith, c.requires.1, h)))
