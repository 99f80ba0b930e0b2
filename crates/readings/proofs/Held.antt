-- Holding within 0 and a whole number n: of a whole number, and of a float, whose whole part is then held too. Assumes nothing.
use mathlib.Core.Path.{◌≡◌, refl, sym, ap, ◌∙◌}
use mathlib.Core.Bool.{Bool, true, false, cond, false≢true, true≢false}
use mathlib.Core.Logic.{◌⊎◌, inl, inr}
use Prim.Native.Nat.{ℕ, zero, suc, ◌*◌, ◌-◌, ◌/◌, ◌^◌, ◌≤◌, ◌<◌, zero-le, min}
use native.Mathlib.Nat.{mul-one, zero-mul, zero-div, div-one, mul-le-mul_right, min-eq_left, min-eq_right, min-le_right, le_of_lt, le-div_iff_mul-le, div-lt_iff_lt-mul}
use native.Mathlib.Omega.{arith}
use borrow.Author.Tests.{lt-ltb, le-ltb, ltb-true, ltb-false}
use lib.Dec.{ltb}
use lib.IntN.{ℤ, pos, negsuc, neg_ℤ, nat_abs}
use lib.Ieee.{Float, nan, inf, fin, binary32, up, down, lt, add, of_bits, to_signed}
use lib.Ieee.Fits.{down_pos}
use Rattle.numbers.specs.Steps.{nought, truncated}
use Rattle.readings.specs.Readings.{held, quant_q40}
use Rattle.readings.proofs.Values.{Fraction, finite, power, lt_is, cut_is}

-- ---- whole numbers

-- held at the upper end alone
pub capped : (n k : ℕ) → cond (ltb n k) (pos n) (pos k) ≡ pos (min k n)
capped n k = by (ltb n k) refl
  where
    by : (t : Bool) → ltb n k ≡ t → cond t (pos n) (pos k) ≡ pos (min k n)
    by true e = ap pos (sym (min-eq_right (le_of_lt (ltb-true n k e))))
    by false e = ap pos (sym (min-eq_left (ltb-false n k e)))

pub held_pos : (n k : ℕ) → held (pos 0) (pos n) (pos k) ≡ pos (min k n)
held_pos n k = rw (le-ltb k 0 zero-le) (capped n k)

held_neg : (n k : ℕ) → held (pos 0) (pos n) (neg_ℤ (pos k)) ≡ pos 0
held_neg n zero = held_pos n 0 ∙ ap pos (min-eq_left zero-le)
held_neg n (suc k) = refl

-- ---- floats

-- t, or +0.0 where t is not above it
abbrev pub raised : Float → Float
raised t = cond (lt nought t) t nought

-- t, held within +0.0 and b
abbrev pub between : Float → Float → Float
between t b = cond (lt (raised t) b) (raised t) b

-- c is t held within 0 and n: +0.0 or above, below 256, and with the held whole part
pub record Held (n : ℕ) (t c : Float) : Type 0 where
  pub from_zero : (c ≡ nought) ⊎ (lt nought c ≡ true)
  pub below : lt c (of_bits binary32 0x4380_0000) ≡ true
  pub is : truncated c ≡ held (pos 0) (pos n) (truncated t)

module _ (n : ℕ) (some : 0 < n) (few : n < 256) (b : Float) (B : Fraction b n 1) where
  -- +0.0 is below b, and b is below 256
  over_zero : lt nought b ≡ true
  unfolding of_bits
  over_zero = lt_is (finite 0 (pos 0)) B ∙ lt-ltb (0 * 1) (n * 1) (omega arith)

  under_256 : lt b (of_bits binary32 0x4380_0000) ≡ true
  unfolding of_bits
  under_256 = lt_is B (power 8) ∙ lt-ltb (n * 1) (256 * 1) (omega arith)

  -- where t is not above +0.0
  none : (t : Float) → lt nought t ≡ false → held (pos 0) (pos n) (truncated t) ≡ pos 0
  unfolding of_bits lt to_signed
  none nan h = held_neg n 0
  none (inf true) h = held_neg n (2 ^ 31)
  none (inf false) h = absurd (true≢false h)
  none (fin true m e) h = held_neg n (min (m * up e / down e) (2 ^ 31))
  none (fin false m e) h =
      let nothing : m * up e ≡ 0 = omega (arith, ltb-false (0 * down e) (m * up e * 1) h, zero-mul (down e)) in
      let part : m * up e / down e ≡ 0 = ap (λ (k : ℕ). k / down e) nothing ∙ zero-div (down e) in
      rw part (held_neg n 0)

  at_zero : (t : Float) → lt nought t ≡ false → Held n t nought
  unfolding of_bits lt to_signed
  at_zero t h = record { from_zero = inl refl; below = refl; is = sym (none t h) }

  -- where its whole part is n or more
  at_top : (t : Float) (k : ℕ) → truncated t ≡ pos k → n ≤ k → Held n t b
  at_top t k e h =
      let whole : truncated b ≡ pos n = cut_is 31 B ∙ ap pos (ap (λ (i : ℕ). min i (2 ^ 31 - 1)) (div-one n) ∙ min-eq_left (omega arith)) in
      record { from_zero = inr over_zero; below = under_256; is = whole ∙ sym (rw e (held_pos n k ∙ ap pos (min-eq_right h))) }

  -- where it is above +0.0 and below b
  inside : (t : Float) (a c : ℕ) → Fraction t a c → lt nought t ≡ true → a < n * c → Held n t t
  unfolding of_bits
  inside t a c p z h =
      let whole : a / c ≤ n = le_of_lt ((div-lt_iff_lt-mul p.some).1 h) in
      record {
        from_zero = inr z;
        below = lt_is p (power 8) ∙ lt-ltb (a * 1) (256 * c) (omega (arith, mul-le-mul_right c (le_of_lt few)));
        is = cut_is 31 p ∙ sym (rw (cut_is 31 p) (held_pos n (min (a / c) (2 ^ 31 - 1)) ∙ ap pos (min-eq_left (omega arith))));
      }

  above : (t : Float) → lt nought t ≡ true → Held n t (cond (lt t b) t b)
  unfolding of_bits lt to_signed
  above nan h = absurd (false≢true h)
  above (inf true) h = absurd (false≢true h)
  above (inf false) h =
      let over : lt (inf false) b ≡ false = rw B.shape in
      rw over (at_top (inf false) (2 ^ 31 - 1) refl (omega arith))
  above (fin true m e) h = absurd (false≢true h)
  above (fin false m e) h = by (lt (fin false m e) b) (sym (lt_is (finite m e) B))
    where
      by : (s : Bool) → ltb (m * up e * 1) (n * down e) ≡ s → Held n (fin false m e) (cond s (fin false m e) b)
      by true g = inside (fin false m e) (m * up e) (down e) (finite m e) h (rw mul-one at (ltb-true (m * up e * 1) (n * down e) g))
      by false g =
          let whole : n ≤ m * up e / down e = (le-div_iff_mul-le (down_pos e)).1 (rw mul-one at (ltb-false (m * up e * 1) (n * down e) g)) in
          at_top (fin false m e) (min (m * up e / down e) (2 ^ 31 - 1)) refl (omega arith)

  pub held_is : (t : Float) → Held n t (between t b)
  held_is t = by (lt nought t) refl
    where
      by : (s : Bool) → lt nought t ≡ s → Held n t (cond (lt (cond s t nought) b) (cond s t nought) b)
      by true h = above t h
      by false h = rw over_zero (at_zero t h)

-- ---- what is held is one of 0 to n

pub record UpTo (n : ℕ) (z : ℤ) : Type 0 where
  pub number : ℕ
  pub is : z ≡ pos number
  pub most : number ≤ n

pub held_up_to : (n : ℕ) (z : ℤ) → UpTo n (held (pos 0) (pos n) z)
held_up_to n (pos k) = record { number = min k n; is = held_pos n k; most = min-le_right k n }
held_up_to n (negsuc k) = record { number = 0; is = refl; most = zero-le }

-- a Q4_0 quant is a nibble
pub q40_nibble : (p : Float) (r : ℕ) → pos r ≡ quant_q40 p → r < 16
unfolding quant_q40
q40_nibble p r e =
    let u = held_up_to 15 (truncated (add binary32 p (of_bits binary32 0x4108_0000))) in
    let k : r ≡ u.number = ap nat_abs (e ∙ u.is) in
    let m = u.most in
    omega arith
