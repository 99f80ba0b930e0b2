-- `widened` is what document 01 asks of a widening, and the only value of binary32 that is. Assumes nothing.
use mathlib.Core.Path.{◌≡◌, refl, sym, ◌∙◌, subst}
use Prim.Native.Nat.{ℕ, zero, suc, ◌+◌, ◌*◌, ◌^◌, ◌≤◌, ◌<◌}
use native.Mathlib.Nat.{lt_of_lt_of_le, mul_assoc}
use native.Mathlib.Omega.{arith}
use mathlib.Core.Bool.{Bool, true, false}
use borrow.Author.Tests.{eqb-true, eqb-false}
use lib.Dec.{T, eqb}
use lib.Pow.{pow_pos, pow-add, pow_mono, shl_lt}
use lib.Ieee.{Float, binary32, round, fits}
use lib.Ieee.Exact.{HasValue, round_exact}
use lib.Ieee.Fits.{round-fits}
use Rattle.halves.specs.Binary16.{negative, exponent, digits, multiple, multiple_of, widened, Widens}
use Rattle.halves.proofs.Cases.{at_finite, at_infinity, at_nan}
use Rattle.halves.proofs.SameValue.{same_value}

-- binary32 holds every whole multiple of 2 ^ -24 that a finite binary16 is
exactly : (s : Bool) (x t : ℕ) → x < 31 → t < 1024 → HasValue (round binary32 s (multiple x t) (2 ^ 24)) s (multiple x t) (2 ^ 24)
exactly s zero t h k =
    let under : t < 2 ^ 24 = omega arith in
    let room : 135 ≤ 277 = omega arith in
    round_exact binary32 s t (2 ^ 24) t 125 (pow_pos 24) under (lt_of_lt_of_le (shl_lt 10 125 k) (pow_mono room)) (sym (mul_assoc t (2 ^ 125) (2 ^ 24)))
exactly s (suc x) t h k =
    let m = 1024 + t in
    let under : m < 2 ^ 24 = omega arith in
    let eleven : m < 2 ^ 11 = omega arith in
    let room : 11 + (x + 125) ≤ 277 = omega arith in
    round_exact binary32 s (m * 2 ^ x) (2 ^ 24) m (x + 125) (pow_pos 24) under (lt_of_lt_of_le (shl_lt 11 (x + 125) eleven) (pow_mono room))
    (rw (pow-add 2 x 125, ← mul_assoc m (2 ^ x) (2 ^ 125)) (sym (mul_assoc (m * 2 ^ x) (2 ^ 125) (2 ^ 24))))

finite_widened : (h : ℕ) → (exponent h ≡ 31 → ⊥) → HasValue (widened h) (negative h) (multiple_of h) (2 ^ 24)
finite_widened h n =
    let x : exponent h < 31 = omega arith in
    let t : digits h < 1024 = omega arith in
    subst (λ (v : Float). HasValue v (negative h) (multiple_of h) (2 ^ 24)) (sym (at_finite h (exponent h) refl n)) (exactly (negative h) (exponent h) (digits h) x t)

pub widens : (h : ℕ) → Widens h (widened h)
widens h = record { finite = finite_widened h; infinite = at_infinity h; no_number = at_nan h }

-- What document 01 asks is met by one value of binary32.
pub only_widened : (h : ℕ) (x : Float) → T (fits binary32 x) → Widens h x → x ≡ widened h
only_widened h x t w = by (eqb (exponent h) 31) (eqb (digits h) 0) refl refl
  where
    by : (e d : Bool) → eqb (exponent h) 31 ≡ e → eqb (digits h) 0 ≡ d → x ≡ widened h
    by true true e d = let E = eqb-true (exponent h) 31 e in let D = eqb-true (digits h) 0 d in w.infinite E D ∙ sym (at_infinity h E D)
    by true false e d = let E = eqb-true (exponent h) 31 e in let D = eqb-false (digits h) 0 d in w.no_number E D ∙ sym (at_nan h E D)
    by false d e q =
        let E = eqb-false (exponent h) 31 e in
        same_value binary32 x (widened h) (negative h) (multiple_of h) (2 ^ 24) (multiple_of h) (2 ^ 24) t
        (subst (λ (v : Float). T (fits binary32 v)) (sym (at_finite h (exponent h) refl E)) (round-fits binary32 (negative h) (multiple_of h) (2 ^ 24)))
        (pow_pos 24) (pow_pos 24) (w.finite E) (finite_widened h E) refl
