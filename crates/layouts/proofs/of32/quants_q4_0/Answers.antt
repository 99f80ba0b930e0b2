-- `of32::quants_q4_0` meets its contract: in turn k the neighbours 2 k and 2 k + 1 are filled. Assumes nothing.
use mathlib.Core.Path.{refl}
use Prim.Native.Nat.{◌+◌, ◌*◌, ◌/◌}
use lib.IntN.{pos}
use lib.ListN.{replicate}
use Rattle.numbers.proofs.Signed.{byte_read_lem}
use native.Mathlib.Omega.{arith}
use Rattle.layouts.specs.Of32.{quant32}
use Rattle.layouts.specs.declared.format.Format32.TheVariants.{Q40}
use Rattle.layouts.proofs.Two.{own_neighbours, pairs_none, pairs_more, pairs_all}
use Rattle.layouts.proofs.Quants.{beside_low, beside_high, q40_at}
use Rattle.layouts.proofs.of32.quants_q4_0.Goals as goal

pub loop-k-init : goal.loop-k-init
loop-k-init c = pairs_none 16 (λ i. i / 2) (quant32 Q40 c.args.block.now) (pos 0) (replicate 32 (pos 0)) refl

pub less-requires-in-loop-k : goal.less-requires-in-loop-k
less-requires-in-loop-k c = omega (arith, c.type_inv.block (2 + c.loop-k.k))

pub loop-k-preserved : goal.loop-k-preserved
loop-k-preserved c =
    let bs = c.args.block.now in
    let k = c.loop-k.k in
    pairs_more 16 (λ i. i / 2) (quant32 Q40 bs) (pos 0) c.loop-k.q k _ _ (omega arith) (byte_read_lem c.less.type_inv c.less.ensures (q40_at bs (2 * k) _ (beside_low bs 2 k))) (byte_read_lem c.less-in-loop-k.type_inv c.less-in-loop-k.ensures (q40_at bs (2 * k + 1) _ (beside_high bs 2 k))) (λ a b i h. own_neighbours k a b i)
    c.loop-k.invariant

pub returns : goal.returns
returns c =
    let l = c.loop-k in
    pairs_all 16 (λ i. i / 2) (quant32 Q40 c.args.block.now) (pos 0) l.q l.k (omega (arith, c.loop-k-test.false)) (λ i h. omega arith) l.invariant
