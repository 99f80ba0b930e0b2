-- `widened` in each of its cases, as the code has them. Assumes nothing.
use mathlib.Core.Path.{◌≡◌, refl, sym, ap, ◌∙◌}
use Prim.Native.Nat.{ℕ, zero, suc, ◌+◌, ◌*◌, ◌/◌, ◌^◌, ◌<◌}
use native.Mathlib.Nat.{add_comm, mul_assoc}
use native.Mathlib.Omega.{arith}
use mathlib.Core.Bool.{Bool}
use borrow.Author.Tests.{lt-leb, le-leb, eq-eqb, ne_eqb}
use lib.Dec.{eqb}
use lib.Pow.{pow_pos, pow-add}
use lib.Ieee.{nan, inf, binary32, round, of_bits, div}
use lib.Ieee.Scale.{round_same}
use Rattle.halves.specs.Binary16.{negative, exponent, digits, multiple, widened}

pub sign_bit : (h : ℕ) → h < 65536 → eqb (h / 32768) 1 ≡ negative h
sign_bit h b = go (h / 32768) refl
  where
    go : (q : ℕ) → q ≡ h / 32768 → eqb q 1 ≡ negative h
    go zero e = sym (lt-leb 32768 h (omega arith))
    go (suc zero) e = sym (le-leb 32768 h (omega arith))
    go (suc (suc q)) e = let z : ◌≡◌ {A = ℕ} 0 1 = omega arith in absurd (omega (arith, z))

pub infinite : (s : ℕ) → s < 2 → of_bits binary32 (s * 2147483648 + 2139095040) ≡ inf (eqb s 1)
unfolding of_bits
infinite zero h = refl
infinite (suc zero) h = refl
infinite (suc (suc s)) h = let z : ◌≡◌ {A = ℕ} 0 1 = omega arith in absurd (omega (arith, z))

pub nought : (s : ℕ) → s < 2 → of_bits binary32 (s * 2147483648) ≡ round binary32 (eqb s 1) 0 (2 ^ 24)
unfolding of_bits round
nought zero h = refl
nought (suc zero) h = refl
nought (suc (suc s)) h = let z : ◌≡◌ {A = ℕ} 0 1 = omega arith in absurd (omega (arith, z))

pub no_number : div binary32 (of_bits binary32 0) (of_bits binary32 0) ≡ nan
unfolding div of_bits
no_number = refl

pub at_infinity : (h : ℕ) → exponent h ≡ 31 → digits h ≡ 0 → widened h ≡ inf (negative h)
unfolding widened
at_infinity h e d = rw (eq-eqb (exponent h) 31 e, eq-eqb (digits h) 0 d)

pub at_nan : (h : ℕ) → exponent h ≡ 31 → (digits h ≡ 0 → ⊥) → widened h ≡ nan
unfolding widened
at_nan h e d = rw (eq-eqb (exponent h) 31 e, ne_eqb (digits h) 0 d)

pub at_finite : (h x : ℕ) → exponent h ≡ x → (exponent h ≡ 31 → ⊥) → widened h ≡ round binary32 (negative h) (multiple x (digits h)) (2 ^ 24)
unfolding widened
at_finite h x e n = rw (ne_eqb (exponent h) 31 n, e)

pub normal : (s : Bool) (t x : ℕ) → 0 < x → round binary32 s ((t + 1024) * 2 ^ (x + 112)) (2 ^ 137) ≡ round binary32 s (multiple x t) (2 ^ 24)
normal s t zero p = let z : ◌≡◌ {A = ℕ} 0 1 = omega arith in absurd (omega (arith, z))
normal s t (suc x) p =
    let m = 1024 + t in
    round_same binary32 s ((t + 1024) * 2 ^ (suc x + 112)) (2 ^ 137) (m * 2 ^ x) (2 ^ 24) (pow_pos 137) (pow_pos 24)
    (ap (λ (z : ℕ). z * 2 ^ 24) (rw (add_comm t 1024, up x, pow-add 2 x 113, ← mul_assoc m (2 ^ x) (2 ^ 113))) ∙ mul_assoc (m * 2 ^ x) (2 ^ 113) (2 ^ 24))
  where
    up : (y : ℕ) → suc y + 112 ≡ y + 113
    up y = omega arith
