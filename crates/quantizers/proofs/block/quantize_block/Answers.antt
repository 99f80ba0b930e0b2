-- `block::quantize_block` meets its contract: the stored scale, and then the quants of its target. Assumes nothing.
use mathlib.Core.Path.{◌≡◌, refl, sym, ap, ◌∙◌}
use Prim.Native.Nat.{ℕ, ◌+◌, ◌-◌, ◌/◌, ◌%◌, ◌^◌, ◌<◌}
use mathlib.Core.List.{List, ◌++◌}
use lib.ListN.{length, get_or, set, take, drop, length-set}
use Rattle.std.specs.Int.{w16, to_le_bytes}
use lib.Ieee.{Float}
use Rattle.memory.specs.Lists.{table}
use Rattle.memory.proofs.Filled.{part_length}
use native.Mathlib.Omega.{arith}
use Rattle.halves.specs.declared.how.Narrowed.{Narrowed}
use Rattle.layouts.specs.Formats.{bytes32}
use Rattle.layouts.proofs.Sizes.{least_32}
use Rattle.layouts.proofs.Written.{block_long}
use Rattle.quantizers.specs.Blocks.{format_of, scale_of, stored_scale, byte_at}
use Rattle.readings.specs.Readings.{inverse}
use Rattle.quantizers.specs.Lost.{scale_fares}
use Rattle.quantizers.specs.declared.target.Target.{Target}
use Rattle.quantizers.specs.declared.target.Target.TheVariants.{Q40, Q40Ggml, Q80, Iq4Nl}
use Rattle.quantizers.proofs.Bytes.{written, block_left}
use Rattle.quantizers.proofs.block.quantize_block.Goals as goal

-- an output with the stored scale's two bytes
abbrev scaled : (out half : List ℕ) → List ℕ
scaled out half = set (set out 0 (get_or half 0 0)) 1 (get_or half 1 0)

-- it is as long as a block of the target u that the code was told of
told_long : (t u : Target) (out half : List ℕ) → length out ≡ bytes32 (format_of t) → t ≡ u → length (scaled out half) ≡ bytes32 (format_of u)
told_long t u out half long e = simp length-set (long ∙ ap (λ (v : Target). bytes32 (format_of v)) e)

-- how the scale fares
fares : (t : Target) (xs : List Float) {s : Narrowed} {d : Float} → s ≡ stored_scale t d → d ≡ scale_of t xs → s.how ≡ scale_fares t xs
unfolding scale_fares
fares t xs e h = ap (λ (n : Narrowed). n.how) e ∙ ap (λ (d : Float). (stored_scale t d).how) h

-- the output with the quants of the target u behind the scale's bytes: a block of that target
behind : (t u : Target) (xs : List Float) (out : List ℕ) {s : Narrowed} {d inv : Float} {half ys : List ℕ} (size k : ℕ)
    → s.bits < 2 ^ 16 → half ≡ to_le_bytes w16 s.bits → s ≡ stored_scale t d → d ≡ scale_of t xs → inv ≡ inverse d → length out ≡ bytes32 (format_of t)
    → t ≡ u → bytes32 (format_of u) ≡ size → size ≡ 2 + k → ys ≡ table (written u xs inv) k
    → (s.how ≡ scale_fares t xs) × (take 2 (scaled out half) ++ (ys ++ drop (size - 2) (drop 2 (scaled out half))) ≡ table (byte_at t xs) (bytes32 (format_of t)))
behind t u xs out {s} {d} {inv} {half} {ys} size k F B H D I L e Z S Y =
    let low : get_or half 0 0 ≡ s.bits % 256 = ap (λ (b : List ℕ). get_or b 0 0) B in
    let high : get_or half 1 0 ≡ s.bits / 256 = ap (λ (b : List ℕ). get_or b 1 0) B ∙ omega (arith, F) in
    (fares t xs H D, rw (low, high) (block_left t u xs out ys s.bits size k d inv e L Z S D I (ap (λ (n : Narrowed). n.bits) H) Y))

-- it is as long as it was, whatever the quants are
kept_long : (t u : Target) (out half : List ℕ) (size k : ℕ) (g : ℕ → ℕ) {ys : List ℕ} → length out ≡ bytes32 (format_of t) → t ≡ u → bytes32 (format_of u) ≡ size → size ≡ 2 + k → ys ≡ table g k
    → length (take 2 (scaled out half) ++ (ys ++ drop (size - 2) (drop 2 (scaled out half)))) ≡ length out
kept_long t u out half size k g {ys} L e Z S Y =
    let was : length out ≡ size = L ∙ ap (λ (v : Target). bytes32 (format_of v)) e ∙ Z in
    block_long size k S g (scaled out half) ys (told_long t u out half L e ∙ Z) Y ∙ sym was

pub scale_of-d-requires : goal.scale_of-d-requires
scale_of-d-requires c = c.requires.0

pub bounds-out-0 : goal.bounds-out-0
bounds-out-0 c = omega (arith, c.requires.1, least_32 (format_of c.args.target))

pub bounds-out-1 : goal.bounds-out-1
bounds-out-1 c = rw length-set (omega (arith, c.requires.1, least_32 (format_of c.args.target)))

pub slice_bounds-write_quants_q4_0-end : goal.slice_bounds-write_quants_q4_0-end
slice_bounds-write_quants_q4_0-end c = omega (arith, told_long _ Q40 c.args.out.now c.to_le_bytes-half.result c.requires.1 c.in-Q40.is)

pub write_quants_q4_0-requires : goal.write_quants_q4_0-requires
write_quants_q4_0-requires c = (c.requires.0, part_length (scaled c.args.out.now c.to_le_bytes-half.result) 2 16 18 refl (omega (arith, told_long _ Q40 c.args.out.now c.to_le_bytes-half.result c.requires.1 c.in-Q40.is)))

pub shape_of-out-in-Q40 : goal.shape_of-out-in-Q40
shape_of-out-in-Q40 c = kept_long _ Q40 c.args.out.now c.to_le_bytes-half.result 18 16 _ c.requires.1 c.in-Q40.is refl refl c.write_quants_q4_0.ensures

pub returns-in-Q40 : goal.returns-in-Q40
returns-in-Q40 c = behind _ Q40 c.args.x.now c.args.out.now 18 16 (omega (arith, c.stored_scale-stored.type_inv)) c.to_le_bytes-half.ensures c.stored_scale-stored.ensures c.scale_of-d.ensures c.inverse_of-inverse.ensures c.requires.1 c.in-Q40.is refl refl c.write_quants_q4_0.ensures

pub slice_bounds-write_quants_q4_0_ggml-end : goal.slice_bounds-write_quants_q4_0_ggml-end
slice_bounds-write_quants_q4_0_ggml-end c = omega (arith, told_long _ Q40Ggml c.args.out.now c.to_le_bytes-half.result c.requires.1 c.in-Q40Ggml.is)

pub write_quants_q4_0_ggml-requires : goal.write_quants_q4_0_ggml-requires
write_quants_q4_0_ggml-requires c = (c.requires.0, part_length (scaled c.args.out.now c.to_le_bytes-half.result) 2 16 18 refl (omega (arith, told_long _ Q40Ggml c.args.out.now c.to_le_bytes-half.result c.requires.1 c.in-Q40Ggml.is)))

pub shape_of-out-in-Q40Ggml : goal.shape_of-out-in-Q40Ggml
shape_of-out-in-Q40Ggml c = kept_long _ Q40Ggml c.args.out.now c.to_le_bytes-half.result 18 16 _ c.requires.1 c.in-Q40Ggml.is refl refl c.write_quants_q4_0_ggml.ensures

pub returns-in-Q40Ggml : goal.returns-in-Q40Ggml
returns-in-Q40Ggml c = behind _ Q40Ggml c.args.x.now c.args.out.now 18 16 (omega (arith, c.stored_scale-stored.type_inv)) c.to_le_bytes-half.ensures c.stored_scale-stored.ensures c.scale_of-d.ensures c.inverse_of-inverse.ensures c.requires.1 c.in-Q40Ggml.is refl refl c.write_quants_q4_0_ggml.ensures

pub slice_bounds-write_quants_q8_0-end : goal.slice_bounds-write_quants_q8_0-end
slice_bounds-write_quants_q8_0-end c = omega (arith, told_long _ Q80 c.args.out.now c.to_le_bytes-half.result c.requires.1 c.in-Q80.is)

pub write_quants_q8_0-requires : goal.write_quants_q8_0-requires
write_quants_q8_0-requires c = (c.requires.0, part_length (scaled c.args.out.now c.to_le_bytes-half.result) 2 32 34 refl (omega (arith, told_long _ Q80 c.args.out.now c.to_le_bytes-half.result c.requires.1 c.in-Q80.is)))

pub shape_of-out-in-Q80 : goal.shape_of-out-in-Q80
shape_of-out-in-Q80 c = kept_long _ Q80 c.args.out.now c.to_le_bytes-half.result 34 32 _ c.requires.1 c.in-Q80.is refl refl c.write_quants_q8_0.ensures

pub returns-in-Q80 : goal.returns-in-Q80
returns-in-Q80 c = behind _ Q80 c.args.x.now c.args.out.now 34 32 (omega (arith, c.stored_scale-stored.type_inv)) c.to_le_bytes-half.ensures c.stored_scale-stored.ensures c.scale_of-d.ensures c.inverse_of-inverse.ensures c.requires.1 c.in-Q80.is refl refl c.write_quants_q8_0.ensures

pub slice_bounds-write_quants_iq4_nl-end : goal.slice_bounds-write_quants_iq4_nl-end
slice_bounds-write_quants_iq4_nl-end c = omega (arith, told_long _ (Iq4Nl _) c.args.out.now c.to_le_bytes-half.result c.requires.1 c.in-Iq4Nl.is)

pub write_quants_iq4_nl-requires : goal.write_quants_iq4_nl-requires
write_quants_iq4_nl-requires c = (c.requires.0, part_length (scaled c.args.out.now c.to_le_bytes-half.result) 2 16 18 refl (omega (arith, told_long _ (Iq4Nl _) c.args.out.now c.to_le_bytes-half.result c.requires.1 c.in-Iq4Nl.is)))

pub shape_of-out-in-Iq4Nl : goal.shape_of-out-in-Iq4Nl
shape_of-out-in-Iq4Nl c = kept_long _ (Iq4Nl _) c.args.out.now c.to_le_bytes-half.result 18 16 _ c.requires.1 c.in-Iq4Nl.is refl refl c.write_quants_iq4_nl.ensures

pub returns-in-Iq4Nl : goal.returns-in-Iq4Nl
returns-in-Iq4Nl c = behind _ (Iq4Nl _) c.args.x.now c.args.out.now 18 16 (omega (arith, c.stored_scale-stored.type_inv)) c.to_le_bytes-half.ensures c.stored_scale-stored.ensures c.scale_of-d.ensures c.inverse_of-inverse.ensures c.requires.1 c.in-Iq4Nl.is refl refl c.write_quants_iq4_nl.ensures
