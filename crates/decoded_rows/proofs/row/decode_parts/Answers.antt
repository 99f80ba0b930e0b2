-- `row::decode_parts` meets its contract: the places of one block a turn. Assumes nothing.
use mathlib.Core.Path.{◌≡◌, refl, sym, ap, ◌∙◌}
use Prim.Native.Nat.{ℕ, ◌+◌, ◌-◌, ◌*◌, ◌/◌, ◌%◌, ◌<◌, zero-le}
use native.Mathlib.Nat.{le_antisymm, le_of_eq, div-add-mod'}
use native.Mathlib.Omega.{arith}
use lib.ListN.{length, take, drop}
use lib.Ieee.{Float}
use Rattle.memory.specs.Lists.{table, filled}
use Rattle.memory.proofs.Filled.{filled_none, filled_all, part_length, part_turn}
use Rattle.layouts.specs.Weights.{value_in, weight_at, values_of}
use Rattle.layouts.proofs.Sizes.{placed}
use Rattle.decoded_rows.proofs.Turns.{block_within, some_taken}
use Rattle.decoded_rows.proofs.row.decode_parts.Goals as goal

pub loop-at-init : goal.loop-at-init
loop-at-init c = (filled_none _ _, zero-le, refl)

pub decode_within-requires : goal.decode_within-requires
decode_within-requires c =
    let l = c.loop-at in
    let size = c.block_bytes-size in
    let values = c.block_values-values in
    let place = c.args.from + l.at in
    let b = place / values.result in
    let inside : place < values_of c.args.format (length c.args.w.now) = omega (arith, c.requires.0, c.loop-at-test.true) in
    let n = some_taken c.args.format _ place l.at _ c.min.result values.ensures c.loop-at-test.true c.min.ensures in
    let lent = part_length l.out l.at c.min.result (l.at + c.min.result) refl (omega (arith, n.3, l.invariant.2)) in (
      part_length c.args.w.now (b * size.result) size.result (b * size.result + size.result) refl (block_within c.args.format _ _ place _ size.ensures values.ensures inside) ∙ size.ensures,
      rw (lent, sym values.ensures) (omega (arith, n)),
    )

pub loop-at-preserved : goal.loop-at-preserved
loop-at-preserved c =
    let l = c.loop-at in
    let f = c.args.format in
    let w = c.args.w.now in
    let z = c.block_bytes-size.result in
    let v = c.block_values-values.result in
    let r = c.min.result in
    let place = c.args.from + l.at in
    let b = place / v in
    let inside = place % v in
    let g : ℕ → Float = λ i. value_in f (take (b * z + z - b * z) (drop (b * z) w)) (inside + i) in
    let whole : ℕ → Float = λ i. weight_at f w (c.args.from + i) in
    let n = some_taken f v place l.at (length c.args.out.now) r c.block_values-values.ensures c.loop-at-test.true c.min.ensures in
    let adds : b * v + inside ≡ place = div-add-mod' place v in
    let same : (i : ℕ) → i < r → g i ≡ whole (l.at + i) = λ i h.
    placed f w b (inside + i) z v c.block_bytes-size.ensures c.block_values-values.ensures (omega (arith, n, h)) ∙ ap (weight_at f w) (omega (arith, adds)) in
    let lent = part_length l.out l.at r (l.at + r) refl (omega (arith, n.3, l.invariant.2)) in
    let p =
    part_turn whole g c.args.out.now l.out c.decode_within.new.out l.at r (l.at + r) (l.at + r) refl refl n.3 l.invariant.0
    (c.decode_within.ensures ∙ ap (table g) lent) same in
    (p.0, n.3, p.1)

pub shape_of-out : goal.shape_of-out
shape_of-out c = c.loop-at.invariant.2

pub returns : goal.returns
returns c =
    let l = c.loop-at in
    let whole : ℕ → Float = λ i. weight_at c.args.format c.args.w.now (c.args.from + i) in
    let e : l.at ≡ length c.args.out.now = le_antisymm l.invariant.1 c.loop-at-test.false in
    l.invariant.0 ∙ ap (filled whole c.args.out.now) e ∙ filled_all whole c.args.out.now (length c.args.out.now) (le_of_eq refl)
