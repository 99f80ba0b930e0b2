-- `row::decode_row` meets its contract: a row of whole blocks is the values of its own bytes. Assumes nothing.
use mathlib.Core.Path.{refl, ap, ◌∙◌}
use Prim.Native.Nat.{◌+◌}
use native.Mathlib.Nat.{le_of_eq}
use lib.ListN.{length}
use Rattle.memory.specs.Lists.{filled}
use Rattle.memory.proofs.Filled.{filled_all, table_ext}
use Rattle.layouts.specs.Weights.{weight_at}
use Rattle.decoded_rows.proofs.WholeRows.{row_values, row_weights}
use Rattle.decoded_rows.proofs.row.decode_row.Goals.{After-block_values-values, Else-from-values-gt0}
use Rattle.decoded_rows.proofs.row.decode_row.Goals as goal

pub decode_blocks-requires : goal.decode_blocks-requires
decode_blocks-requires c =
    le_of_eq (row_values c.args.format c.args.w.now c.args.from (length c.args.out.now) _ _ c.block_bytes-size.ensures c.block_values-values.ensures c.if-from-values-gt0.false c.requires.0)

pub returns : goal.returns
returns c =
    let f = c.args.format in
    let w = c.args.w.now in
    let out = c.args.out.now in
    let S = c.block_bytes-size.ensures in
    let W = c.block_values-values.ensures in
    c.decode_blocks.ensures
    ∙ ap (filled (weight_at f _) out) (row_values f w c.args.from (length out) _ _ S W c.if-from-values-gt0.false c.requires.0)
    ∙ filled_all (weight_at f _) out (length out) (le_of_eq refl)
    ∙ table_ext _ (λ i. weight_at f w (c.args.from + i)) (length out) (row_weights f w c.args.from (length out) _ _ S W c.if-from-values-gt0.false c.requires.0)
