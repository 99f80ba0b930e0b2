-- `k::quants_q6k` meets its contract: in turn l the eight places l, 32 + l, .. are filled. Assumes nothing.
use mathlib.Core.Path.{◌≡◌, refl, ◌∙◌}
use Prim.Native.Nat.{ℕ, ◌+◌, ◌*◌, ◌/◌, ◌%◌, ◌<◌}
use lib.IntN.{pos, ◌-ℤ◌}
use lib.ListN.{get_or, replicate}
use Rattle.numbers.proofs.Signed.{byte_read_lem}
use native.Mathlib.Omega.{arith}
use Rattle.layouts.specs.K.{quant_q6k}
use Rattle.k_quants.proofs.Eight.{streamed_none, streamed_more, streamed_all}
use Rattle.layouts.proofs.Quants.{q6k_at}
use Rattle.k_quants.proofs.k.quants_q6k.Goals as goal

-- the first bit pair is not shifted
first : (n h : ℕ) → pos (n + 16 * (h % 4)) -ℤ pos 32 ≡ pos (n + 16 * (h / 1 % 4)) -ℤ pos 32
first n h = let e : h / 1 ≡ h = omega arith in rw e

pub loop-l-init : goal.loop-l-init
loop-l-init c = streamed_none (quant_q6k c.args.block.now) (pos 0) (replicate 256 (pos 0)) refl

pub six_bits-requires-in-loop-l-2 : goal.six_bits-requires-in-loop-l-2
six_bits-requires-in-loop-l-2 c = omega (arith, c.type_inv.block c.loop-l.l)

pub six_bits-requires-in-loop-l-3 : goal.six_bits-requires-in-loop-l-3
six_bits-requires-in-loop-l-3 c = omega (arith, c.type_inv.block (32 + c.loop-l.l))

pub six_bits-requires-in-loop-l-6 : goal.six_bits-requires-in-loop-l-6
six_bits-requires-in-loop-l-6 c = omega (arith, c.type_inv.block (64 + c.loop-l.l))

pub six_bits-requires-in-loop-l-7 : goal.six_bits-requires-in-loop-l-7
six_bits-requires-in-loop-l-7 c = omega (arith, c.type_inv.block (96 + c.loop-l.l))

pub loop-l-preserved : goal.loop-l-preserved
loop-l-preserved c =
    let bs = c.args.block.now in
    let l = c.loop-l.l in
    let k : l < 32 = c.loop-l-test.true in
    let s₁ = c.six_bits in
    let s₂ = c.six_bits-in-loop-l in
    let s₃ = c.six_bits-in-loop-l-2 in
    let s₄ = c.six_bits-in-loop-l-3 in
    let s₅ = c.six_bits-in-loop-l-4 in
    let s₆ = c.six_bits-in-loop-l-5 in
    let s₇ = c.six_bits-in-loop-l-6 in
    let s₈ = c.six_bits-in-loop-l-7 in
    streamed_more (quant_q6k bs) (pos 0) c.loop-l.q l _ _ _ _ _ _ _ _ k
    (byte_read_lem s₁.type_inv (s₁.ensures ∙ first (get_or bs l 0 % 16) (get_or bs (128 + l) 0)) (q6k_at bs 0 0 l l l (128 + l) (omega arith) k (omega arith) (omega arith) (omega arith)))
    (byte_read_lem s₂.type_inv s₂.ensures (q6k_at bs 0 1 l (32 + l) (32 + l) (128 + l) (omega arith) k (omega arith) (omega arith) (omega arith)))
    (byte_read_lem s₃.type_inv s₃.ensures (q6k_at bs 0 2 l (64 + l) l (128 + l) (omega arith) k (omega arith) (omega arith) (omega arith)))
    (byte_read_lem s₄.type_inv s₄.ensures (q6k_at bs 0 3 l (96 + l) (32 + l) (128 + l) (omega arith) k (omega arith) (omega arith) (omega arith)))
    (byte_read_lem s₅.type_inv (s₅.ensures ∙ first (get_or bs (64 + l) 0 % 16) (get_or bs (160 + l) 0)) (q6k_at bs 1 0 l (128 + l) (64 + l) (160 + l) (omega arith) k (omega arith) (omega arith) (omega arith)))
    (byte_read_lem s₆.type_inv s₆.ensures (q6k_at bs 1 1 l (160 + l) (96 + l) (160 + l) (omega arith) k (omega arith) (omega arith) (omega arith)))
    (byte_read_lem s₇.type_inv s₇.ensures (q6k_at bs 1 2 l (192 + l) (64 + l) (160 + l) (omega arith) k (omega arith) (omega arith) (omega arith)))
    (byte_read_lem s₈.type_inv s₈.ensures (q6k_at bs 1 3 l (224 + l) (96 + l) (160 + l) (omega arith) k (omega arith) (omega arith) (omega arith)))
    c.loop-l.invariant

pub returns : goal.returns
returns c = let l = c.loop-l in streamed_all (quant_q6k c.args.block.now) (pos 0) l.q l.l c.loop-l-test.false l.invariant
