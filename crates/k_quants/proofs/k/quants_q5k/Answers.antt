-- `k::quants_q5k` meets its contract: in turn l the eight places l, 32 + l, .. are filled. Assumes nothing.
use mathlib.Core.Path.{◌≡◌, refl}
use Prim.Native.Nat.{ℕ, ◌+◌, ◌*◌, ◌/◌, ◌%◌, ◌^◌, ◌<◌}
use lib.ListN.{get_or, replicate}
use native.Mathlib.Omega.{arith}
use Rattle.layouts.specs.Of32.{nibble}
use Rattle.layouts.specs.K.{quant_q5k}
use Rattle.k_quants.proofs.Eight.{streamed_none, streamed_more, streamed_all}
use Rattle.layouts.proofs.Quants.{q5k_at}
use Rattle.k_quants.proofs.k.quants_q5k.Goals as goal

pub loop-l-init : goal.loop-l-init
loop-l-init c = streamed_none (quant_q5k c.args.block.now) 0 (replicate 256 0) refl

pub overflow_add-q-in-loop-l : goal.overflow_add-q-in-loop-l
overflow_add-q-in-loop-l c = omega (arith, c.type_inv.block (48 + c.loop-l.l))

pub overflow_add-q-in-loop-l-5 : goal.overflow_add-q-in-loop-l-5
overflow_add-q-in-loop-l-5 c = omega (arith, c.type_inv.block (80 + c.loop-l.l))

pub overflow_add-q-in-loop-l-9 : goal.overflow_add-q-in-loop-l-9
overflow_add-q-in-loop-l-9 c = omega (arith, c.type_inv.block (112 + c.loop-l.l))

pub overflow_add-q-in-loop-l-13 : goal.overflow_add-q-in-loop-l-13
overflow_add-q-in-loop-l-13 c = omega (arith, c.type_inv.block (144 + c.loop-l.l))

pub loop-l-preserved : goal.loop-l-preserved
loop-l-preserved c =
    let bs = c.args.block.now in
    let l = c.loop-l.l in
    let h : l < 32 = c.loop-l-test.true in
    let at : (j p k b : ℕ) → p ≡ 32 * j + l → k ≡ 48 + (32 * (j / 2) + l) → b ≡ get_or bs (16 + l) 0 / 2 ^ j % 2 → nibble (get_or bs k 0) (j % 2) + 16 * b ≡ quant_q5k bs p = λ j p k b. q5k_at bs j l p k b h in
    streamed_more (quant_q5k bs) 0 c.loop-l.q l _ _ _ _ _ _ _ _ h
    (at 0 l (48 + l) (get_or bs (16 + l) 0 % 2) (omega arith) (omega arith) (omega arith))
    (at 1 (32 + l) (48 + l) _ (omega arith) (omega arith) refl)
    (at 2 (64 + l) (80 + l) _ (omega arith) (omega arith) refl)
    (at 3 (96 + l) (80 + l) _ (omega arith) (omega arith) refl)
    (at 4 (128 + l) (112 + l) _ (omega arith) (omega arith) refl)
    (at 5 (160 + l) (112 + l) _ (omega arith) (omega arith) refl)
    (at 6 (192 + l) (144 + l) _ (omega arith) (omega arith) refl)
    (at 7 (224 + l) (144 + l) _ (omega arith) (omega arith) refl)
    c.loop-l.invariant

pub returns : goal.returns
returns c = let l = c.loop-l in streamed_all (quant_q5k c.args.block.now) 0 l.q l.l c.loop-l-test.false l.invariant
