-- The whole part of a small float without a cast of a fraction: adding 2 ^ 23 rounds it to a whole number next to it, since a binary32 has no fraction from there on; taking 2 ^ 23 off again is exact; and a comparison says whether the whole number is one too large. Assumes nothing.
use mathlib.Core.Path.{◌≡◌, refl, ap, ◌∙◌, subst}
use mathlib.Core.Bool.{Bool, true, false, cond, false≢true}
use mathlib.Core.Logic.{◌⊎◌, inl, inr}
use Prim.Native.Nat.{ℕ, ◌+◌, ◌-◌, ◌*◌, ◌/◌, ◌%◌, ◌^◌, ◌≤◌, ◌<◌, compare}
use native.Mathlib.Nat.{lt_of_not-le, not-le_of_lt, lt_of_lt_of_le, lt_of_le_of_lt, le_trans, le_antisymm, le_of_eq, mul-one, mul_assoc, mul_right_comm, mul-le-mul_right, mul-lt-mul_of_pos_right, mul-pos, eq_of_mul-eq-mul_right, le-div_iff_mul-le, div-lt_iff_lt-mul, add-mul-div_right, min-eq_left}
use native.Mathlib.Omega.{arith}
use borrow.Author.Tests.{ltb-true, ltb-false}
use lib.Dec.{ltb, lit<, lit≤}
use lib.IntN.{pos}
use lib.Pow.{pow_pos, pow_mono, shl_lt}
use lib.Ieee.{Float, nan, inf, fin, binary32, up, down, size, round, lt, add, sub, of_int, of_bits}
use lib.Ieee.Back.{round_whole, whole_unique}
use lib.Ieee.Digits.{size-lt, size-le}
use lib.Ieee.Exact.{HasValue}
use lib.Ieee.Fits.{nearest-le, sub-fits, round-fits}
use lib.Ieee.Nearest.{closest, closest_same, nearest-ge}
use lib.Ieee.Scale.{grid, round_val}
use Rattle.numbers.specs.Steps.{nought, truncated}
use Rattle.readings.proofs.Values.{Fraction, of_value, to_value, finite, power, lt_is, add_is, sub_is, cut_is}

-- ---- from 2 ^ 23 to 2 ^ 24 the floats are the whole numbers

-- q * l over l is the whole number q
unscaled : (x : Float) (q l : ℕ) → 0 < l → HasValue x false (q * l) l → Fraction x q 1
unscaled x q l L h =
    let p = of_value x (q * l) l L h in
    record {
      some = lit< tt;
      digits = p.digits;
      place = p.place;
      shape = p.shape;
      same = eq_of_mul-eq-mul_right l L (p.digits * up p.place * 1) (q * down p.place) (rw mul-one (p.same ∙ mul_right_comm q l (down p.place)));
    }

module _ (a d : ℕ) (D : 0 < d) (from : 2 ^ 23 * d ≤ a) (under : a < 2 ^ 24 * d) where
  -- in units of the smallest value the fraction has 173 digits, ..
  low_end : 2 ^ 172 ≤ a * 2 ^ 149 / d
  low_end = (le-div_iff_mul-le D).1 (le_trans (le_of_eq (mul_right_comm (2 ^ 23) (2 ^ 149) d)) (mul-le-mul_right (2 ^ 149) from))

  high_end : a * 2 ^ 149 / d < 2 ^ 173
  high_end = (div-lt_iff_lt-mul D).1 (lt_of_lt_of_le (mul-lt-mul_of_pos_right under (pow_pos 149)) (le_of_eq (mul_right_comm (2 ^ 24) d (2 ^ 149))))

  digits : size (a * 2 ^ 149 / d) ≡ 173
  digits =
      let n = a * 2 ^ 149 / d in
      le_antisymm (size-le n 173 high_end) (lt_of_not-le (λ (g : size n ≤ 172). not-le_of_lt (size-lt n) (le_trans (pow_mono g) low_end)))

  -- .. of which 24 are kept: what is left is a whole number, the closest
  on_grid : grid binary32 a d ≡ closest a d * 2 ^ 149
  on_grid =
      ap (λ (k : ℕ). closest (a * 2 ^ 149) (d * 2 ^ (k - 24)) * 2 ^ (k - 24)) digits
      ∙ ap (λ (q : ℕ). q * 2 ^ 149) (closest_same (a * 2 ^ 149) (d * 2 ^ 149) a d (mul-pos D (pow_pos 149)) D (mul_right_comm a (2 ^ 149) d ∙ mul_assoc a d (2 ^ 149)))

  at_most : closest a d < 2 ^ 25
  at_most = lt_of_le_of_lt (nearest-le (a / d) (compare (a % d * 2) d)) (lt_of_le_of_lt ((div-lt_iff_lt-mul D).1 under) (lit< tt))

  pub rounds : Fraction (round binary32 false a d) (closest a d) 1
  rounds =
      let small : grid binary32 a d < 2 ^ 277 = lt_of_le_of_lt (le_of_eq on_grid) (lt_of_lt_of_le (shl_lt 25 149 at_most) (lit≤ tt)) in
      unscaled (round binary32 false a d) (closest a d) (2 ^ 149) (pow_pos 149)
      (subst (λ (q : ℕ). HasValue (round binary32 false a d) false q (2 ^ 149)) on_grid (round_val binary32 a d small))

-- ---- +0.0 or above, and below 256

pub record Small (c : Float) : Type 0 where
  pub num : ℕ
  pub den : ℕ
  pub fraction : Fraction c num den
  pub below : num < 256 * den

pub small : (c : Float) → (c ≡ nought) ⊎ (lt nought c ≡ true) → lt c (of_bits binary32 0x4380_0000) ≡ true → Small c
unfolding of_bits lt
small c (inl e) h = record { num = 0; den = 1; fraction = rw e (finite 0 (pos 0)); below = lit< tt }
small nan (inr g) h = absurd (false≢true h)
small (inf true) (inr g) h = absurd (false≢true g)
small (inf false) (inr g) h = absurd (false≢true h)
small (fin true m e) (inr g) h = absurd (false≢true g)
small (fin false m e) (inr g) h = record {
  num = m * up e;
  den = down e;
  fraction = finite m e;
  below = rw mul-one at (ltb-true (m * up e * 1) (256 * down e) h);
}

-- ---- the whole part of c

-- 2 ^ 23
abbrev big : Float
big = fin false 1 (pos 23)

-- the whole number next to c that adding 2 ^ 23 and taking it off again leaves
abbrev pub near : Float → Float
near c = sub binary32 (add binary32 c big) big

module _ (c : Float) (n d : ℕ) (p : Fraction c n d) (b : n < 256 * d) where
  -- what 2 ^ 23 and c are rounded to
  abbrev sum : ℕ
  sum = closest (n + 8388608 * d) d

  next : (n / d + 8388608 ≤ sum) × (sum ≤ n / d + 8388609)
  next =
      let e = add-mul-div_right n 8388608 p.some in
      let l = nearest-ge ((n + 8388608 * d) / d) (compare ((n + 8388608 * d) % d * 2) d) in
      let h = nearest-le ((n + 8388608 * d) / d) (compare ((n + 8388608 * d) % d * 2) d) in
      (omega arith, omega arith)

  whole_small : n / d < 256
  whole_small = (div-lt_iff_lt-mul p.some).1 b

  added : Fraction (add binary32 c big) sum 1
  added =
      let e : add binary32 c big ≡ round binary32 false (n + 8388608 * d) d = simp mul-one at (add_is p (power 23)) in
      rw e (rounds (n + 8388608 * d) d p.some (omega arith) (omega arith))

  near_small : sum - 8388608 ≤ 256
  near_small = omega (arith, next, whole_small)

  near_is : Fraction (near c) (sum - 8388608) 1
  near_is =
      let l : 8388608 ≤ sum = omega (arith, next) in
      let e : near c ≡ round binary32 false (sum - 8388608) 1 = simp mul-one at (sub_is added (power 23) (mul-le-mul_right 1 l)) in
      rw e (of_value (round binary32 false (sum - 8388608) 1) (sum - 8388608) 1 (lit< tt) (round_whole binary32 false (sum - 8388608) (omega (arith, near_small))))

  near_float : near c ≡ of_int binary32 (pos (sum - 8388608))
  unfolding of_int
  near_float =
      whole_unique binary32 (near c) (round binary32 false (sum - 8388608) 1) false (sum - 8388608) (sub-fits binary32 (add binary32 c big) big) (round-fits binary32 false (sum - 8388608) 1) (to_value near_is)
      (round_whole binary32 false (sum - 8388608) (omega (arith, near_small)))

  -- it is the whole part, or one more where it is above c
  one_more : sum - 8388608 ≡ n / d + cond (lt c (near c)) 1 0
  one_more = rw (lt_is p near_is) (by (ltb (n * 1) ((sum - 8388608) * d)) refl)
    where
      by : (t : Bool) → ltb (n * 1) ((sum - 8388608) * d) ≡ t → sum - 8388608 ≡ n / d + cond t 1 0
      by true e =
          let k : n / d < sum - 8388608 = (div-lt_iff_lt-mul p.some).1 (rw mul-one at (ltb-true (n * 1) ((sum - 8388608) * d) e)) in
          omega (arith, next)
      by false e =
          let k : sum - 8388608 ≤ n / d = (le-div_iff_mul-le p.some).1 (rw mul-one at (ltb-false (n * 1) ((sum - 8388608) * d) e)) in
          omega (arith, next)

-- the whole part of c is w, and the whole number next to c is w, or one more where it is above c
pub record Whole (c : Float) : Type 0 where
  pub w : ℕ
  pub under : w < 256
  pub is : truncated c ≡ pos w
  pub next_to : near c ≡ of_int binary32 (pos (w + cond (lt c (near c)) 1 0))

pub whole_of : {c : Float} → Small c → Whole c
whole_of {c} s =
    let under = whole_small c s.num s.den s.fraction s.below in
    record {
      w = s.num / s.den;
      under = under;
      is = cut_is 31 s.fraction ∙ ap pos (min-eq_left (held under));
      next_to = near_float c s.num s.den s.fraction s.below ∙ ap (λ (k : ℕ). of_int binary32 (pos k)) (one_more c s.num s.den s.fraction s.below);
    }
  where
    held : {k : ℕ} → k < 256 → k ≤ 2 ^ 31 - 1
    held h = omega arith
