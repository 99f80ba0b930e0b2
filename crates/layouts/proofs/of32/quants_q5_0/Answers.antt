-- `of32::quants_q5_0` meets its contract: in turn k the places k and k + 16 are filled. Assumes nothing.
use mathlib.Core.Path.{◌≡◌, refl}
use Prim.Native.Nat.{◌+◌, ◌%◌, ◌<◌}
use lib.IntN.{pos}
use lib.ListN.{replicate}
use Rattle.numbers.specs.Fields.{le32}
use Rattle.numbers.proofs.Signed.{byte_read_lem}
use native.Mathlib.Omega.{arith}
use Rattle.layouts.specs.Of32.{quant32}
use Rattle.layouts.specs.declared.format.Format32.TheVariants.{Q50}
use Rattle.layouts.proofs.Two.{own_halves, pairs_none, pairs_more, pairs_all}
use Rattle.layouts.proofs.Quants.{apart_low, apart_high, q50_at}
use Rattle.layouts.proofs.of32.quants_q5_0.Goals as goal

pub loop-k-init : goal.loop-k-init
loop-k-init c = pairs_none 16 (λ i. i % 16) (quant32 Q50 c.args.block.now) (pos 0) (replicate 32 (pos 0)) refl

pub with_high_bit-requires-in-loop-k : goal.with_high_bit-requires-in-loop-k
with_high_bit-requires-in-loop-k c = omega (arith, c.type_inv.block (6 + c.loop-k.k))

pub loop-k-preserved : goal.loop-k-preserved
loop-k-preserved c =
    let bs = c.args.block.now in
    let k = c.loop-k.k in
    let h : k < 16 = c.loop-k-test.true in
    let e : c.le_u32-high.result ≡ le32 bs 2 = c.le_u32-high.ensures in
    pairs_more 16 (λ i. i % 16) (quant32 Q50 bs) (pos 0) c.loop-k.q k _ _ h
    (byte_read_lem c.with_high_bit.type_inv (rw e at c.with_high_bit.ensures) (q50_at bs k _ (apart_low bs 6 k h)))
    (byte_read_lem c.with_high_bit-in-loop-k.type_inv (rw e at c.with_high_bit-in-loop-k.ensures) (q50_at bs (k + 16) _ (apart_high bs 6 k h))) (own_halves 16 k) c.loop-k.invariant

pub returns : goal.returns
returns c =
    let l = c.loop-k in
    pairs_all 16 (λ i. i % 16) (quant32 Q50 c.args.block.now) (pos 0) l.q l.k c.loop-k-test.false (λ i h. omega arith) l.invariant
