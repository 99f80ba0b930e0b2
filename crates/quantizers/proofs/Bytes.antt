-- The bytes of a block: the stored scale's two, and then the quants'. Assumes nothing.
use mathlib.Core.Path.{◌≡◌, sym, ap, ◌∙◌}
use Prim.Native.Nat.{ℕ, suc, ◌+◌, ◌-◌, ◌*◌, ◌/◌, ◌%◌, ◌<◌}
use native.Mathlib.Omega.{arith}
use mathlib.Core.List.{List, ◌++◌}
use lib.Arith.{digits_div, digits_mod}
use lib.IntN.{pos}
use lib.ListN.{length, get_or, set, take, drop}
use lib.Ieee.{Float, nan, binary32, mul}
use Rattle.memory.specs.Lists.{table}
use Rattle.numbers.specs.Fields.{byte_of}
use Rattle.readings.specs.Readings.{inverse, quant_q8, quant_q40}
use Rattle.nearest.specs.Nearest.{quant_iq4_nl}
use Rattle.layouts.specs.Formats.{bytes32}
use Rattle.layouts.proofs.Written.{block_written}
use Rattle.quantizers.specs.Blocks.{format_of, scale_of, stored_scale, scaled_reading, quant_of, nibbles, quant_byte, byte_at}
use Rattle.quantizers.specs.Says.{packed_at}
use Rattle.quantizers.specs.declared.target.Target.{Target}
use Rattle.quantizers.specs.declared.target.Target.TheVariants.{Q40, Q40Ggml, Q80, Iq4Nl}

pub after_scale : (t : Target) (xs : List Float) (l : ℕ) → quant_byte t xs l ≡ byte_at t xs (2 + l)
unfolding byte_at
after_scale t xs l = let e : 2 + l ≡ suc (suc l) = omega arith in rw e

-- what the writers of the quants put by the inverse, and that it is what the block has
abbrev pub written : Target → List Float → Float → ℕ → ℕ
written Q40 xs inv k = nibbles (quant_q40 (mul binary32 (get_or xs (2 * k) nan) inv)) (quant_q40 (mul binary32 (get_or xs (2 * k + 1) nan) inv))
written Q40Ggml xs inv k = nibbles (quant_q40 (mul binary32 (get_or xs k nan) inv)) (quant_q40 (mul binary32 (get_or xs (k + 16) nan) inv))
written Q80 xs inv k = byte_of (quant_q8 (mul binary32 (get_or xs k nan) inv))
written (Iq4Nl s) xs inv k = nibbles (pos (quant_iq4_nl (mul binary32 (get_or xs k nan) inv))) (pos (quant_iq4_nl (mul binary32 (get_or xs (k + 16) nan) inv)))

written_is : (t : Target) (xs : List Float) (k : ℕ) → written t xs (inverse (scale_of t xs)) k ≡ byte_at t xs (2 + k)
unfolding quant_byte quant_of scaled_reading
written_is Q40 xs k = after_scale Q40 xs k
written_is Q40Ggml xs k = after_scale Q40Ggml xs k
written_is Q80 xs k = after_scale Q80 xs k
written_is (Iq4Nl s) xs k = after_scale (Iq4Nl s) xs k

-- the scale's two bytes, and then those of the target u that the code was told of, by the scale d and the inverse that it computed
pub block_left : (t u : Target) (xs : List Float) (out ys : List ℕ) (half size k : ℕ) (d inv : Float) → t ≡ u → length out ≡ bytes32 (format_of t) → bytes32 (format_of u) ≡ size → size ≡ 2 + k
    → d ≡ scale_of t xs → inv ≡ inverse d → half ≡ (stored_scale t d).bits → ys ≡ table (written u xs inv) k
    → (let o = set (set out 0 (half % 256)) 1 (half / 256) in take 2 o ++ (ys ++ drop (size - 2) (drop 2 o)) ≡ table (byte_at t xs) (bytes32 (format_of t)))
unfolding byte_at
block_left t u xs out ys half size k d inv e L Z S D I H Y =
    let scale : d ≡ scale_of u xs = D ∙ ap (λ (v : Target). scale_of v xs) e in
    let half_is : half ≡ (stored_scale u (scale_of u xs)).bits = H ∙ ap (λ (v : Target). (stored_scale v d).bits) e ∙ ap (λ (x : Float). (stored_scale u x).bits) scale in
    let by : (l : ℕ) → written u xs inv l ≡ byte_at u xs (2 + l) = λ l. ap (λ (i : Float). written u xs i l) (I ∙ ap inverse scale) ∙ written_is u xs l in
    let long : length out ≡ size = L ∙ ap (λ (v : Target). bytes32 (format_of v)) e ∙ Z in
    block_written size k S (byte_at u xs) (written u xs inv) out ys (half % 256) (half / 256) long (ap (λ (n : ℕ). n % 256) half_is) (ap (λ (n : ℕ). n / 256) half_is) Y by
    ∙ ap (table (byte_at u xs)) (sym Z)
    ∙ ap (λ (v : Target). table (byte_at v xs) (bytes32 (format_of v))) (sym e)

-- block b's byte at place l is the output's at place b * size + l
pub placed : (t : Target) (xs : List Float) (b l size : ℕ) → size ≡ bytes32 (format_of t) → l < size
    → byte_at t (take (b * 32 + 32 - b * 32) (drop (b * 32) xs)) l ≡ packed_at t xs (b * size + l)
unfolding packed_at
placed t xs b l size S h =
    let d : b * 32 + 32 - b * 32 ≡ 32 = omega arith in
    rw (d, ← S, digits_div b h, digits_mod b h)
