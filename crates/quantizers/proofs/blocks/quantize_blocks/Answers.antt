-- `blocks::quantize_blocks` meets its contract: in turn b block b is quantised into its own places, and its scale is counted. Assumes nothing.
use mathlib.Core.Path.{◌≡◌, refl, sym, ap, ◌∙◌}
use Prim.Native.Nat.{ℕ, ◌+◌, ◌-◌, ◌*◌, ◌/◌, ◌≤◌, ◌<◌}
use native.Mathlib.Nat.{zero-mul, suc-mul}
use native.Mathlib.Numerals.{add-one}
use lib.ListN.{length, take, drop}
use Rattle.memory.specs.Lists.{table, filled}
use Rattle.memory.proofs.Filled.{part_length}
use Rattle.memory.proofs.Parts.{part_within, parts_none, parts_more, parts_done}
use native.Mathlib.Omega.{arith}
use Rattle.layouts.specs.Formats.{bytes32}
use Rattle.quantizers.specs.Blocks.{format_of, byte_at}
use Rattle.quantizers.specs.Lost.{counted, scale_fares, lost_in}
use Rattle.quantizers.specs.Says.{packed_at, bytes_for}
use Rattle.layouts.specs.declared.format.Format32.{Format32}
use Rattle.quantizers.specs.declared.target.Target.{Target}
use Rattle.quantizers.specs.declared.lost.Lost.{Lost}
use Rattle.quantizers.proofs.Bytes.{placed}
use Rattle.quantizers.proofs.Counts.{one_more, at_most}
use Rattle.quantizers.proofs.blocks.quantize_blocks.Goals as goal

-- block b's readings lie within the readings, its bytes lie within the output, and there are fewer blocks than readings
facts : (t : Target) {b size n room : ℕ} {f : Format32} → size ≡ bytes32 f → f ≡ format_of t → bytes_for t n ≤ room → b < n / 32
    → (b * 32 + 32 ≤ n) × (b * size + size ≤ room) × (b < n)
facts t {b} {size} {n} {room} S f h k = part_within b 32 size n room k (rw (S, f) h)

pub loop-b-init : goal.loop-b-init
unfolding lost_in
loop-b-init c = (parts_none (packed_at c.args.target c.args.x.now) c.args.out.now (λ k. k * c.block_bytes-size.result) _ (zero-mul _), refl)

pub quantize_block-how-requires : goal.quantize_block-how-requires
quantize_block-how-requires c =
    let l = c.loop-b in
    let size = c.block_bytes-size in
    let k = facts c.args.target c.block_bytes-size.ensures c.format_of.ensures c.requires c.loop-b-test.true in
    let room : l.b * size.result + size.result ≤ length l.out = omega (arith, k.1, l.invariant.0.2) in (
      part_length c.args.x.now (l.b * 32) 32 (l.b * 32 + 32) refl k.0,
      part_length l.out (l.b * size.result) size.result (l.b * size.result + size.result) refl room ∙ (c.block_bytes-size.ensures ∙ ap bytes32 c.format_of.ensures),
    )

-- there are fewer blocks than a count holds
pub count-lost-requires : goal.count-lost-requires
count-lost-requires c =
    let l = c.loop-b in
    let k = facts c.args.target c.block_bytes-size.ensures c.format_of.ensures c.requires c.loop-b-test.true in
    rw l.invariant.1 (omega (arith, at_most c.args.target c.args.x.now l.b, k.2))

pub loop-b-preserved : goal.loop-b-preserved
loop-b-preserved c =
    let l = c.loop-b in
    let q = c.quantize_block-how.ensures in
    let u = c.args.target in
    let xs = c.args.x.now in
    let size = c.block_bytes-size.result in
    let S : size ≡ bytes32 (format_of u) = (c.block_bytes-size.ensures ∙ ap bytes32 c.format_of.ensures) in
    let k = facts c.args.target c.block_bytes-size.ensures c.format_of.ensures c.requires c.loop-b-test.true in
    let b = l.b in
    let g = byte_at u (take (b * 32 + 32 - b * 32) (drop (b * 32) xs)) in (
      parts_more (packed_at u xs) c.args.out.now (λ k. k * size) (length xs / 32) g l.out _ b size c.loop-b-test.true (rw add-one (suc-mul b size)) k.1 (q.1 ∙ ap (table g) (sym S)) (λ i h. placed u xs b i size S h) l.invariant.0,
      c.count-lost.ensures ∙ ap (counted l.lost) q.0 ∙ ap (λ (n : Lost). counted n (scale_fares u (take (b * 32 + 32 - b * 32) (drop (b * 32) xs)))) l.invariant.1 ∙ one_more u xs b,
    )

pub shape_of-out : goal.shape_of-out
shape_of-out c = c.loop-b.invariant.0.2

pub returns : goal.returns
returns c =
    let l = c.loop-b in
    let u = c.args.target in
    let xs = c.args.x.now in
    let size = c.block_bytes-size in
    let S : size.result ≡ bytes32 (format_of u) = (c.block_bytes-size.ensures ∙ ap bytes32 c.format_of.ensures) in
    let all : l.b ≡ length xs / 32 = omega (arith, c.loop-b-test.false, l.invariant.0.1) in (
      l.invariant.1 ∙ ap (lost_in u xs) all,
      parts_done (packed_at u xs) c.args.out.now (λ k. k * size.result) (length xs / 32) l.out l.b c.loop-b-test.false l.invariant.0 ∙ ap (filled (packed_at u xs) c.args.out.now) (ap (λ (n : ℕ). length xs / 32 * n) S),
    )
