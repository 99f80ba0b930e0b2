-- The largest magnitude as a number: a float that is not negative is so many units of 2 ^ -149, the smallest float, and an infinity more than any. So the order of the readings is of no account. Assumes nothing.
use mathlib.Core.Path.{◌≡◌, refl, sym, ap, ◌∙◌, subst}
use mathlib.Core.Bool.{Bool, true, false, ◌&&◌, cond}
use mathlib.Core.List.{List}
use Prim.Native.Nat.{ℕ, zero, suc, ◌+◌, ◌-◌, ◌*◌, ◌/◌, ◌%◌, ◌^◌, ◌≤◌, ◌<◌, zero-le, suc-le-suc, max}
use native.Mathlib.Nat.{lt_irrefl, lt_of_le_of_lt, lt_of_not-le, not-le_of_lt, le_trans, lt_of_lt_of_le, le_of_eq, le_refl, le-suc, zero-mul, zero-div, mul_assoc, mul_right_comm, mul-pos, one-mul, mul-le-mul_right, le_of_mul-le-mul_right, mul-lt-mul_of_pos_right, mul-div_cancel, div-lt_iff_lt-mul, max-eq_left, max-eq_right, le_of_lt}
use native.Mathlib.Omega.{arith}
use borrow.Author.Tests.{lt-ltb, le-ltb, ltb-true, ltb-false}
use lib.Dec.{T, ltb, leb, eqb, eqb→eq, ltb→lt, leb→le, lit<, lit≤}
use lib.IntN.{ℤ, pos, negsuc}
use lib.ListN.{get_or}
use lib.Pow.{pow_pos, pow-add, pow_mono}
use lib.Ieee.{Float, nan, inf, fin, binary32, up, down, lt, neg, fits, of_bits}
use lib.Ieee.Digits.{back}
use lib.Ieee.Fits.{up_pos, down_pos, and_l, and_r, neg-fits}
use Rattle.numbers.specs.Steps.{nought, magnitude}
use Rattle.readings.specs.Readings.{largest}
use Rattle.halves.proofs.SameValue.{same_value}
use Rattle.readings.proofs.Values.{Fraction, to_value, alike, lt_is}
use Rattle.readings.proofs.Peaks.{peak}

-- how many units the magnitude of a reading is; none for a NaN
abbrev pub units_of : Float → ℕ
units_of nan = 0
units_of (inf s) = 2 ^ 277
units_of (fin s m e) = m * up e * 2 ^ 149 / down e

-- .. and how many that of reading i is
abbrev pub units_at : List Float → ℕ → ℕ
units_at xs i = units_of (get_or xs i nan)

-- x is not negative and is k units, ..
pub data Size : Float → ℕ → Type 0 where
  infinite : Size (inf false) (2 ^ 277)
  finite : {x : Float} {k : ℕ} → Fraction x k (2 ^ 149) → k < 2 ^ 277 → Size x k

-- .. and is a float of the format
pub record Measured (x : Float) (k : ℕ) : Type 0 where
  pub held : T (fits binary32 x)
  pub size : Size x k

-- ---- a float of the format is a whole number of units

-- a power of 2 that is at most 2 ^ 149 divides it
divides : (e : ℤ) → down e ≤ 2 ^ 149 → 2 ^ 149 ≡ 2 ^ 149 / down e * down e
divides (pos k) h = refl
divides (negsuc k) h =
    let l : suc k ≤ 149 = few k h in
    let e : 2 ^ 149 ≡ 2 ^ (149 - suc k) * 2 ^ suc k = ap (λ (n : ℕ). 2 ^ n) (sym (back 149 (suc k) l)) ∙ pow-add 2 (149 - suc k) (suc k) in
    e ∙ ap (λ (n : ℕ). n * 2 ^ suc k) (sym (ap (λ (n : ℕ). n / 2 ^ suc k) e ∙ mul-div_cancel (2 ^ (149 - suc k)) (pow_pos (suc k))))
  where
    never : 2 ^ 150 ≤ 2 ^ 149 → ⊥
    never = not-le_of_lt (lit< tt)

    few : (k : ℕ) → 2 ^ suc k ≤ 2 ^ 149 → suc k ≤ 149
    few k h = lt_of_not-le (λ (g : 149 ≤ k). never (le_trans (pow_mono (suc-le-suc g)) h))

-- what `fits` says of a finite float
in_format : (s : Bool) (m : ℕ) (e : ℤ) → T (fits binary32 (fin s m e)) → (down e ≤ 2 ^ 149) × (m * up e < 2 ^ 128 * down e)
unfolding fits
in_format s zero e t =
    let one : down e ≤ 1 = le_trans (subst (λ (n : ℕ). n ≤ up e * down e) (one-mul (down e)) (mul-le-mul_right (down e) (up_pos e))) (le_of_eq (eqb→eq (up e * down e) 1 t)) in
    (le_trans one (lit≤ tt), rw zero-mul (mul-pos (pow_pos 128) (down_pos e)))
in_format s (suc m) e t =
    let a = eqb (suc m % 2) 1 && ltb (suc m) (2 ^ 24) in
    let b = leb (down e) (2 ^ 149) in
    let c = ltb (suc m * up e) (2 ^ 128 * down e) in
    (leb→le (down e) (2 ^ 149) (and_r a b (and_l (a && b) c t)), ltb→lt (suc m * up e) (2 ^ 128 * down e) (and_r (a && b) c t))

few_units : (m : ℕ) (e : ℤ) → m * up e < 2 ^ 128 * down e → m * up e * 2 ^ 149 / down e < 2 ^ 277
few_units m e h = (div-lt_iff_lt-mul (down_pos e)).1 (lt_of_lt_of_le (mul-lt-mul_of_pos_right h (pow_pos 149)) (le_of_eq (mul_right_comm (2 ^ 128) (down e) (2 ^ 149))))

pub measured : (m : ℕ) (e : ℤ) → T (fits binary32 (fin false m e)) → Measured (fin false m e) (m * up e * 2 ^ 149 / down e)
measured m e t =
    let f = in_format false m e t in
    let r = 2 ^ 149 / down e in
    let whole : m * up e * 2 ^ 149 ≡ m * up e * r * down e = ap (λ (n : ℕ). m * up e * n) (divides e f.0) ∙ sym (mul_assoc (m * up e) r (down e)) in
    let units : m * up e * 2 ^ 149 / down e ≡ m * up e * r = ap (λ (n : ℕ). n / down e) whole ∙ mul-div_cancel (m * up e * r) (down_pos e) in
    record {
      held = t;
      size = finite (record { some = pow_pos 149; digits = m; place = e; shape = refl; same = whole ∙ ap (λ (n : ℕ). n * down e) (sym units) }) (few_units m e f.1);
    }

-- ---- the order is the order of the numbers, and the number says which float it is

pub lt_size : {x y : Float} {k l : ℕ} → Size x k → Size y l → lt x y ≡ ltb k l
unfolding lt
lt_size infinite infinite = refl
lt_size {x} {y} {k} {l} infinite (finite q b) = rw q.shape (sym (le-ltb (2 ^ 277) l (le_of_lt b)))
lt_size {x} {y} {k} {l} (finite p a) infinite = rw p.shape (sym (lt-ltb k (2 ^ 277) a))
lt_size {x} {y} {k} {l} (finite p a) (finite q b) =
    lt_is p q ∙ alike (k * 2 ^ 149) (l * 2 ^ 149) k l (mul-le-mul_right (2 ^ 149)) (λ h. le_of_mul-le-mul_right h (pow_pos 149))

-- (the two numbers of units are apart here, so that no case has to compare 2 ^ 277 with itself)
same_float : {x y : Float} {k l : ℕ} → T (fits binary32 x) → T (fits binary32 y) → Size x k → Size y l → k ≡ l → x ≡ y
same_float s t infinite infinite e = refl
same_float s t infinite (finite b h) e = absurd (lt_irrefl (2 ^ 277) (subst (λ (n : ℕ). n < 2 ^ 277) (sym e) h))
same_float s t (finite a h) infinite e = absurd (lt_irrefl (2 ^ 277) (subst (λ (n : ℕ). n < 2 ^ 277) e h))
same_float {x} {y} {k} {l} s t (finite a g) (finite b h) e = same_value binary32 x y false k (2 ^ 149) l (2 ^ 149) s t (pow_pos 149) (pow_pos 149) (to_value a) (to_value b) (ap (λ (n : ℕ). n * 2 ^ 149) e)

pub same_size : {x y : Float} {k : ℕ} → Measured x k → Measured y k → x ≡ y
same_size p q = same_float p.held q.held p.size q.size refl

-- the number is that of the float
pub units_are : {x : Float} {k : ℕ} → Measured x k → units_of x ≡ k
units_are p = go p.size
  where
    go : {x : Float} {k : ℕ} → Size x k → units_of x ≡ k
    go infinite = refl
    go {x} {k} (finite a h) = rw a.shape (ap (λ (n : ℕ). n / down a.place) a.same ∙ mul-div_cancel k (down_pos a.place))

-- ---- readings

-- nothing is below a NaN, and what is not negative is not below -0.0
pub under_nan : (a : Float) → lt a nan ≡ false
unfolding lt
under_nan nan = refl
under_nan (inf s) = refl
under_nan (fin s m e) = refl

pub under_minus : {a : Float} {k : ℕ} (m : ℕ) (e : ℤ) → Size a k → lt a (fin true m e) ≡ false
unfolding lt
under_minus m e infinite = refl
under_minus m e (finite p h) = rw p.shape

nothing : (m : ℕ) (e : ℤ) → ltb 0 (m * up e * 1 + 0 * down e) ≡ false → m * up e ≡ 0
nothing m e h = omega (arith, ltb-false 0 (m * up e * 1 + 0 * down e) h)

no_units : (m : ℕ) (e : ℤ) → m * up e ≡ 0 → m * up e * 2 ^ 149 / down e ≡ 0
no_units m e h = rw h (zero-div (down e))

-- what is not negative is below a reading's magnitude where it has fewer units
pub under_magnitude : (v : Float) → T (fits binary32 v) → {a : Float} {k : ℕ} → Measured a k → lt a (magnitude v) ≡ ltb k (units_of v)
unfolding lt neg of_bits
under_magnitude nan t {a} {k} p = under_nan a ∙ sym (le-ltb k 0 zero-le)
under_magnitude (inf true) t p = lt_size p.size infinite
under_magnitude (inf false) t p = lt_size p.size infinite
under_magnitude (fin true m e) t {a} {k} p = by (lt (fin true m e) nought) refl
  where
    by : (s : Bool) → lt (fin true m e) nought ≡ s → lt a (cond s (fin false m e) (fin true m e)) ≡ ltb k (m * up e * 2 ^ 149 / down e)
    by true h = lt_size p.size (measured m e (neg-fits binary32 (fin true m e) t)).size
    by false h = under_minus m e p.size ∙ sym (rw (no_units m e (nothing m e h)) (le-ltb k 0 zero-le))
under_magnitude (fin false m e) t p = rw (le-ltb (m * up e * 1) (0 * down e) (rw zero-mul zero-le)) (lt_size p.size (measured m e t).size)

-- a reading's magnitude in units, where it has any
pub magnitude_measured : (v : Float) → T (fits binary32 v) → 0 < units_of v → Measured (magnitude v) (units_of v)
unfolding lt neg of_bits
magnitude_measured nan t h = absurd (lt_irrefl 0 h)
magnitude_measured (inf true) t h = record { held = neg-fits binary32 (inf true) t; size = infinite }
magnitude_measured (inf false) t h = record { held = t; size = infinite }
magnitude_measured (fin true m e) t h = by (lt (fin true m e) nought) refl
  where
    by : (s : Bool) → lt (fin true m e) nought ≡ s → Measured (cond s (fin false m e) (fin true m e)) (m * up e * 2 ^ 149 / down e)
    by true k = measured m e (neg-fits binary32 (fin true m e) t)
    by false k = absurd (lt_irrefl 0 (subst (λ (n : ℕ). 0 < n) (no_units m e (nothing m e k)) h))
magnitude_measured (fin false m e) t h = rw (le-ltb (m * up e * 1) (0 * down e) (rw zero-mul zero-le)) (measured m e t)

-- the larger of a and a reading's magnitude: the reading is taken or passed over
pub taken : (v : Float) → T (fits binary32 v) → {a : Float} {k : ℕ} → Measured a k → Measured (cond (lt a (magnitude v)) (magnitude v) a) (max k (units_of v))
taken v t {a} {k} p = rw (under_magnitude v t p) (by (ltb k (units_of v)) refl)
  where
    by : (s : Bool) → ltb k (units_of v) ≡ s → Measured (cond s (magnitude v) a) (max k (units_of v))
    by true e =
        let l = ltb-true k (units_of v) e in
        rw (max-eq_right (le_of_lt l)) (magnitude_measured v t (lt_of_le_of_lt zero-le l))
    by false e = rw (max-eq_left (ltb-false k (units_of v) e)) p

-- +0.0 is no units
pub none : Measured nought 0
unfolding of_bits fits
none = measured 0 (pos 0) tt

pub largest_measured : (xs : List Float) (k : ℕ) → ((i : ℕ) → i < k → T (fits binary32 (get_or xs i nan))) → Measured (largest xs k) (peak (units_at xs) k)
unfolding largest
largest_measured xs zero h = none
largest_measured xs (suc k) h = taken (get_or xs k nan) (h k (le_refl (suc k))) (largest_measured xs k (λ i l. h i (lt_of_lt_of_le l (le-suc k))))
