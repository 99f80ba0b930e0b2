-- The pattern of a normal binary32 made of a sign bit, a field and eleven leading digits. Assumes nothing.
use mathlib.Core.Path.{◌≡◌, refl, sym, ◌∙◌, subst}
use Prim.Native.Nat.{ℕ, zero, suc, ◌+◌, ◌-◌, ◌*◌, ◌/◌, ◌%◌, ◌^◌, ◌≤◌, ◌<◌, zero-le}
use native.Mathlib.Nat.{lt_of_lt_of_le, not-le_of_lt, mul_right_comm, mul_assoc, pow-succ'}
use native.Mathlib.Omega.{arith}
use mathlib.Core.Bool.{Bool, cond, not}
use lib.Dec.{T, leb, eqb, eqb→eq, not_T}
use lib.Pow.{pow_pos, pow-add, pow_mono, shl_lt}
use borrow.Author.Tests.{lt-leb, le-leb, le-ltb}
use lib.Ieee.{Float, nan, inf, binary32, odd, of_fields, of_bits, round, nan_bits}
use lib.Ieee.Bits.{cond_no, of_bits-fits, nan_bits_above}
use lib.Ieee.Fits.{round-fits}
use lib.Ieee.Exact.{HasValue, odd_sign, round_exact}
use Rattle.halves.proofs.SameValue.{same_value}

abbrev pub pattern : ℕ → ℕ → ℕ → ℕ
pattern s e m = s * 2147483648 + e * 8388608 + (m - 1024) * 8192

pub of_bits_is : (b : ℕ) → of_bits binary32 b ≡ of_fields binary32 (leb 2147483648 b) (b % 2147483648 / 8388608) (b % 8388608)
unfolding of_bits
of_bits_is b = refl

under_ones : (s : Bool) (t x : ℕ) → suc x < 255 → of_fields binary32 s (suc x) t ≡ odd 24 s (8388608 + t) x 149
unfolding of_fields
under_ones s t x h =
    cond_no (eqb (suc x) 255) (cond (eqb t 0) (inf s) nan) (odd 24 s (8388608 + t) x 149)
    (not_T (eqb (suc x) 255) (λ (u : T (eqb (suc x) 255)). let k : suc x ≡ 255 = eqb→eq (suc x) 255 u in omega arith))

sign_is : (s e m : ℕ) → s < 2 → e < 255 → m < 2048 → leb 2147483648 (pattern s e m) ≡ eqb s 1
sign_is zero e m a b c = lt-leb 2147483648 (pattern 0 e m) (omega arith)
sign_is (suc zero) e m a b c = le-leb 2147483648 (pattern 1 e m) (omega arith)
sign_is (suc (suc s)) e m a b c = absurd (over a)
  where
    over : suc (suc s) < 2 → ⊥
    over h = omega arith

field_is : (s e m : ℕ) → s < 2 → e < 255 → m < 2048 → pattern s e m % 2147483648 / 8388608 ≡ e
field_is s e m a b c = omega arith

digits_are : (s e m : ℕ) → s < 2 → e < 255 → m < 2048 → pattern s e m % 8388608 ≡ (m - 1024) * 8192
digits_are s e m a b c = omega arith

fields : (s e m : ℕ) → s < 2 → suc e < 255 → m < 2048 → of_bits binary32 (pattern s (suc e) m) ≡ odd 24 (eqb s 1) (8388608 + (m - 1024) * 8192) e 149
fields s e m a b c =
    of_bits_is (pattern s (suc e) m)
    ∙ rw (sign_is s (suc e) m a b c, field_is s (suc e) m a b c, digits_are s (suc e) m a b c) (under_ones (eqb s 1) ((m - 1024) * 8192) e b)

lead : (m : ℕ) → 1024 ≤ m → 8388608 + (m - 1024) * 8192 ≡ m * 8192
lead m h = omega arith

-- the value as a fraction over 2 ^ 149
valued : (s e m : ℕ) → s < 2 → suc e < 255 → 1024 ≤ m → m < 2048 → HasValue (of_bits binary32 (pattern s (suc e) m)) (eqb s 1) (m * 8192 * 2 ^ e) (2 ^ 149)
valued s e m a b l c =
    subst (λ (x : Float). HasValue x (eqb s 1) (m * 8192 * 2 ^ e) (2 ^ 149)) (sym (fields s e m a b c))
    (subst (λ (q : ℕ). HasValue (odd 24 (eqb s 1) (8388608 + (m - 1024) * 8192) e 149) (eqb s 1) (q * 2 ^ e) (2 ^ 149)) (lead m l) (odd_sign 24 (eqb s 1) (8388608 + (m - 1024) * 8192) e 149))

below_24 : (m : ℕ) → m < 2048 → m < 2 ^ 24
below_24 m h = omega arith

finite : (m j : ℕ) → m < 2048 → j ≤ 266 → m * 2 ^ j < 2 ^ 277
finite m j h k = let r : 11 + j ≤ 277 = omega arith in lt_of_lt_of_le (shl_lt 11 j h) (pow_mono r)

room : (e : ℕ) → suc e < 255 → suc e + 12 ≤ 266
room e h = omega arith

scaled : (m e : ℕ) → m * 2 ^ suc e * 2 ^ 149 ≡ m * 2 ^ (suc e + 12) * 2 ^ 137
scaled m e = rw (pow-add 2 (suc e) 12, ← mul_assoc m (2 ^ suc e) 4096) (sym (mul_assoc (m * 2 ^ suc e) 4096 (2 ^ 137)))

met : (m e : ℕ) → m * 8192 * 2 ^ e * 2 ^ 137 ≡ m * 2 ^ suc e * 2 ^ 149
met m e = rw (pow-succ' 2 e, mul_right_comm m 8192 (2 ^ e), ← mul_assoc m 2 (2 ^ e), mul_right_comm m 2 (2 ^ e)) (mul_assoc (m * 2 ^ e) 8192 (2 ^ 137) ∙ sym (mul_assoc (m * 2 ^ e) 2 (2 ^ 149)))

pub built : (s e m : ℕ) → s < 2 → 1 ≤ e → e < 255 → 1024 ≤ m → m < 2048 → of_bits binary32 (pattern s e m) ≡ round binary32 (eqb s 1) (m * 2 ^ e) (2 ^ 137)
built s zero m a z b l c = absurd (not-le_of_lt z zero-le)
built s (suc e) m a z b l c =
    same_value binary32 (of_bits binary32 (pattern s (suc e) m)) (round binary32 (eqb s 1) (m * 2 ^ suc e) (2 ^ 137)) (eqb s 1)
    (m * 8192 * 2 ^ e) (2 ^ 149) (m * 2 ^ suc e) (2 ^ 137) (of_bits-fits binary32 (pattern s (suc e) m)) (round-fits binary32 (eqb s 1) (m * 2 ^ suc e) (2 ^ 137))
    (pow_pos 149) (pow_pos 137) (valued s e m a b l c)
    (round_exact binary32 (eqb s 1) (m * 2 ^ suc e) (2 ^ 137) m (suc e + 12) (pow_pos 137) (below_24 m c) (finite m (suc e + 12) c (room e b)) (scaled m e))
    (met m e)

pub no_nan : (b : ℕ) → b % 2147483648 ≤ 2139095040 → T (not (nan_bits binary32 b))
no_nan b h = subst (λ (t : Bool). T (not t)) (sym (nan_bits_above binary32 b ∙ le-ltb 2139095040 (b % 2147483648) h)) tt

pub pattern_no_nan : (s e m : ℕ) → s < 2 → e < 255 → m < 2048 → T (not (nan_bits binary32 (pattern s e m)))
pattern_no_nan s e m a b c = no_nan (pattern s e m) (omega arith)
