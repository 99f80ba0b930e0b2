-- `k::quants_q4k` meets its contract: in turn l the eight places l, 32 + l, .. are filled. Assumes nothing.
use mathlib.Core.Path.{◌≡◌, refl}
use Prim.Native.Nat.{ℕ, ◌+◌, ◌*◌, ◌/◌, ◌%◌, ◌<◌}
use lib.ListN.{get_or, replicate}
use native.Mathlib.Omega.{arith}
use Rattle.layouts.specs.Of32.{nibble}
use Rattle.layouts.specs.K.{quant_q4k}
use Rattle.k_quants.proofs.Eight.{streamed_none, streamed_more, streamed_all}
use Rattle.layouts.proofs.Quants.{q4k_at}
use Rattle.k_quants.proofs.k.quants_q4k.Goals as goal

pub loop-l-init : goal.loop-l-init
loop-l-init c = streamed_none (quant_q4k c.args.block.now) 0 (replicate 256 0) refl

pub loop-l-preserved : goal.loop-l-preserved
loop-l-preserved c =
    let bs = c.args.block.now in
    let l = c.loop-l.l in
    let h : l < 32 = c.loop-l-test.true in
    let at : (j p k : ℕ) → p ≡ 32 * j + l → k ≡ 16 + (32 * (j / 2) + l) → nibble (get_or bs k 0) (j % 2) ≡ quant_q4k bs p = λ j p k. q4k_at bs j l p k h in
    streamed_more (quant_q4k bs) 0 c.loop-l.q l _ _ _ _ _ _ _ _ h
    (at 0 l (16 + l) (omega arith) (omega arith))
    (at 1 (32 + l) (16 + l) (omega arith) (omega arith))
    (at 2 (64 + l) (48 + l) (omega arith) (omega arith))
    (at 3 (96 + l) (48 + l) (omega arith) (omega arith))
    (at 4 (128 + l) (80 + l) (omega arith) (omega arith))
    (at 5 (160 + l) (80 + l) (omega arith) (omega arith))
    (at 6 (192 + l) (112 + l) (omega arith) (omega arith))
    (at 7 (224 + l) (112 + l) (omega arith) (omega arith))
    c.loop-l.invariant

pub returns : goal.returns
returns c = let l = c.loop-l in streamed_all (quant_q4k c.args.block.now) 0 l.q l.l c.loop-l-test.false l.invariant
