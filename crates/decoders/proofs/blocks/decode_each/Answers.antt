-- `blocks::decode_each` meets its contract: in turn b block b is decoded into its own places. Assumes nothing.
use mathlib.Core.Path.{◌≡◌, refl, sym, ap, ◌∙◌}
use Prim.Native.Nat.{ℕ, ◌+◌, ◌-◌, ◌*◌, ◌/◌, ◌≤◌, ◌<◌}
use native.Mathlib.Nat.{zero-mul, suc-mul}
use native.Mathlib.Numerals.{add-one}
use lib.ListN.{length, take, drop}
use Rattle.memory.specs.Lists.{table, filled}
use Rattle.memory.proofs.Filled.{part_length}
use native.Mathlib.Omega.{arith}
use Rattle.layouts.specs.Formats.{block_bytes, block_values}
use Rattle.layouts.specs.Weights.{value_in, weight_at, values_of}
use Rattle.memory.proofs.Parts.{part_within, parts_none, parts_more, parts_done}
use Rattle.layouts.specs.declared.format.Format.{Format}
use Rattle.layouts.proofs.Sizes.{sizes, placed}
use Rattle.decoders.proofs.blocks.decode_each.Goals as goal

pub nonzero_div-count : goal.nonzero_div-count
nonzero_div-count c = omega (arith, sizes c.args.format, c.block_bytes-size.ensures)

pub loop-b-init : goal.loop-b-init
loop-b-init c =
    let a = c.args in
    parts_none (weight_at a.format a.bytes.now) a.out.now (λ k. k * c.block_values-values.result) _ (zero-mul _)

-- block b lies within the bytes, and its values lie within the output
facts : (f : Format) (b n room : ℕ) {size v : ℕ} → size ≡ block_bytes f → v ≡ block_values f → values_of f n ≤ room → b < n / size → (b * size + size ≤ n) × (b * v + v ≤ room) × (b < n)
facts f b n room {size} {v} S W h k = part_within b size v n room k (rw (S, W) h)

pub decode_block-requires : goal.decode_block-requires
decode_block-requires c =
    let l = c.loop-b in
    let size = c.block_bytes-size in
    let values = c.block_values-values in
    let k = facts c.args.format l.b (length c.args.bytes.now) (length c.args.out.now) size.ensures values.ensures c.requires c.loop-b-test.true in
    let room : l.b * values.result + values.result ≤ length l.out = omega (arith, k.1, l.invariant.2) in (
      part_length c.args.bytes.now (l.b * size.result) size.result (l.b * size.result + size.result) refl k.0 ∙ size.ensures,
      part_length l.out (l.b * values.result) values.result (l.b * values.result + values.result) refl room ∙ values.ensures,
    )

pub loop-b-preserved : goal.loop-b-preserved
loop-b-preserved c =
    let l = c.loop-b in
    let f = c.args.format in
    let bs = c.args.bytes.now in
    let size = c.block_bytes-size.result in
    let v = c.block_values-values.result in
    let S : size ≡ block_bytes f = c.block_bytes-size.ensures in
    let W : v ≡ block_values f = c.block_values-values.ensures in
    let b = l.b in
    let g = value_in f (take (b * size + size - b * size) (drop (b * size) bs)) in
    parts_more (weight_at f bs) c.args.out.now (λ k. k * v) (length bs / size) g l.out _ b v c.loop-b-test.true (rw add-one (suc-mul b v)) (facts f b (length bs) (length c.args.out.now) S W c.requires c.loop-b-test.true).1 (c.decode_block.ensures ∙ ap (table g) (sym W)) (λ i h. placed f bs b i size v S W h) l.invariant

pub shape_of-out : goal.shape_of-out
shape_of-out c = c.loop-b.invariant.2

pub returns : goal.returns
returns c =
    let l = c.loop-b in
    let f = c.args.format in
    let bs = c.args.bytes.now in
    let size = c.block_bytes-size in
    let values = c.block_values-values in
    parts_done (weight_at f bs) c.args.out.now (λ k. k * values.result) (length bs / size.result) l.out l.b c.loop-b-test.false l.invariant ∙ ap (filled (weight_at f bs) c.args.out.now) (rw (size.ensures, values.ensures))
