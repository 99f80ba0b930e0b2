-- The first value of largest magnitude, in units: it is the reading that first has as many as any. Assumes nothing.
use mathlib.Core.Path.{◌≡◌, refl, sym, ap, ◌∙◌, subst}
use mathlib.Core.Bool.{Bool, true, false, not, ◌&&◌}
use mathlib.Core.Logic.{inl, inr}
use mathlib.Core.List.{List}
use Prim.Native.Nat.{ℕ, zero, suc, ◌≤◌, ◌<◌}
use native.Mathlib.Nat.{eq-or-lt_of_le, le_of_suc-le-suc, lt_of_lt_of_le, le-suc, le_refl}
use native.Mathlib.Omega.{arith}
use borrow.Author.Tests.{lt-ltb, le-ltb, ltb-true, ltb-false}
use lib.Dec.{T, ltb}
use lib.ListN.{get_or}
use lib.Ieee.{Float, nan, binary32, lt, fits}
use Rattle.numbers.specs.Steps.{nought, magnitude}
use Rattle.readings.specs.Readings.{largest, largest_value}
use Rattle.readings.proofs.Peaks.{peak}
use Rattle.readings.proofs.Largest.{units_of, units_at, Measured, lt_size, under_magnitude, magnitude_measured, none, largest_measured}

-- a number above each of the first n is above the largest of them
peak_below : (f : ℕ → ℕ) (n b : ℕ) → 0 < b → ((i : ℕ) → i < n → f i < b) → peak f n < b
peak_below f zero b p h = p
peak_below f (suc n) b p h = let q = peak_below f n b p (λ i k. h i (lt_of_lt_of_le k (le-suc n))) in let r = h n (le_refl (suc n)) in omega arith

pub peak_at_least : (f : ℕ → ℕ) (n i : ℕ) → i < n → f i ≤ peak f n
peak_at_least f zero i h = absurd (omega arith)
peak_at_least f (suc n) i h =
    elim (eq-or-lt_of_le (le_of_suc-le-suc h)) [
      | inl e ↦ rw e (omega arith)
      | inr l ↦ let q = peak_at_least f n i l in omega arith
    ]

-- whether v reaches `most`, in units
abbrev pub reached : Float → Float → Bool
reached v most = lt nought (magnitude v) && not (lt (magnitude v) most)

pub reached_is : (v most : Float) {k : ℕ} → T (fits binary32 v) → Measured most k → reached v most ≡ (ltb 0 (units_of v) && not (ltb (units_of v) k))
reached_is v most {k} t p = rw (under_magnitude v t none) (by (ltb 0 (units_of v)) refl)
  where
    by : (s : Bool) → ltb 0 (units_of v) ≡ s → (s && not (lt (magnitude v) most)) ≡ (s && not (ltb (units_of v) k))
    by true e = ap not (lt_size (magnitude_measured v t (ltb-true 0 (units_of v) e)).size p.size)
    by false e = refl

module _ (xs : List Float) (n : ℕ) (fit : (i : ℕ) → i < n → T (fits binary32 (get_or xs i nan))) where
  -- the largest magnitude of the first k, and whether reading k is above it
  pub taken? : (k : ℕ) → k < n → lt (largest xs k) (magnitude (get_or xs k nan)) ≡ ltb (peak (units_at xs) k) (units_at xs k)
  taken? k h = under_magnitude (get_or xs k nan) (fit k h) (largest_measured xs k (λ i l. fit i (lt_of_lt_of_le l (omega arith))))

  -- the first of the first k readings that has as many units as any has the value
  first_value : (k i : ℕ) → k ≤ n → i < k → 0 < units_at xs i → units_at xs i ≡ peak (units_at xs) k → ((j : ℕ) → j < i → units_at xs j < units_at xs i) → largest_value xs k ≡ get_or xs i nan
  unfolding largest_value
  first_value zero i r h p e b = absurd (omega arith)
  first_value (suc k) i r h p e b =
      elim (eq-or-lt_of_le (le_of_suc-le-suc h)) [
        | inl s ↦
            let q : peak (units_at xs) k < units_at xs k = peak_below (units_at xs) k (units_at xs k) (subst (λ (m : ℕ). 0 < units_at xs m) s p) (λ j l. subst (λ (m : ℕ). units_at xs j < units_at xs m) s (b j (subst (λ (m : ℕ). j < m) (sym s) l))) in
            rw (taken? k r, lt-ltb (peak (units_at xs) k) (units_at xs k) q, s)
        | inr l ↦
            let w = peak_at_least (units_at xs) k i l in
            let q : units_at xs k ≤ peak (units_at xs) k = omega arith in
            let m : units_at xs i ≡ peak (units_at xs) k = omega arith in
            rw (taken? k r, le-ltb (peak (units_at xs) k) (units_at xs k) q) (first_value k i (omega arith) l p m b)
      ]

  -- and where none has any it is +0.0
  pub no_value : (k : ℕ) → k ≤ n → peak (units_at xs) k ≡ 0 → largest_value xs k ≡ nought
  unfolding largest_value
  no_value zero r e = refl
  no_value (suc k) r e =
      let q : units_at xs k ≤ peak (units_at xs) k = omega arith in
      let m : peak (units_at xs) k ≡ 0 = omega arith in
      rw (taken? k r, le-ltb (peak (units_at xs) k) (units_at xs k) q) (no_value k (omega arith) m)

  most_measured : Measured (largest xs n) (peak (units_at xs) n)
  most_measured = largest_measured xs n fit

  -- what a test of reading i tells
  passed : (i : ℕ) → i < n → reached (get_or xs i nan) (largest xs n) ≡ false → 0 < peak (units_at xs) n → units_at xs i < peak (units_at xs) n
  passed i h e p = by (ltb 0 (units_at xs i)) (ltb (units_at xs i) (peak (units_at xs) n)) refl refl (sym (reached_is (get_or xs i nan) (largest xs n) (fit i h) most_measured) ∙ e)
    where
      by : (s t : Bool) → ltb 0 (units_at xs i) ≡ s → ltb (units_at xs i) (peak (units_at xs) n) ≡ t → (s && not t) ≡ false → units_at xs i < peak (units_at xs) n
      by true true u v w = ltb-true (units_at xs i) (peak (units_at xs) n) v
      by true false u v w = absurd (subst T w tt)
      by false t u v w = let z = ltb-false 0 (units_at xs i) u in omega arith

  -- the loop over the readings: the first that reaches the largest magnitude is its value
  pub found : (i : ℕ) → i < n → ((j : ℕ) → j < i → reached (get_or xs j nan) (largest xs n) ≡ false) → reached (get_or xs i nan) (largest xs n) ≡ true → largest_value xs n ≡ get_or xs i nan
  found i h b e = by (ltb 0 (units_at xs i)) (ltb (units_at xs i) (peak (units_at xs) n)) refl refl (sym (reached_is (get_or xs i nan) (largest xs n) (fit i h) most_measured) ∙ e)
    where
      by : (s t : Bool) → ltb 0 (units_at xs i) ≡ s → ltb (units_at xs i) (peak (units_at xs) n) ≡ t → (s && not t) ≡ true → largest_value xs n ≡ get_or xs i nan
      by true false u v w =
          let p = ltb-true 0 (units_at xs i) u in
          let l = peak_at_least (units_at xs) n i h in
          let g = ltb-false (units_at xs i) (peak (units_at xs) n) v in
          let m : units_at xs i ≡ peak (units_at xs) n = omega arith in
          let above : 0 < peak (units_at xs) n = omega arith in
          first_value n i (le_refl n) h p m (λ j k. subst (λ (z : ℕ). units_at xs j < z) (sym m) (passed j (omega arith) (b j k) above))
      by true true u v w = cc
      by false t u v w = cc

  pub nothing_found : ((j : ℕ) → j < n → reached (get_or xs j nan) (largest xs n) ≡ false) → largest_value xs n ≡ nought
  nothing_found b = by (ltb 0 (peak (units_at xs) n)) refl
    where
      by : (s : Bool) → ltb 0 (peak (units_at xs) n) ≡ s → largest_value xs n ≡ nought
      by true e =
          let p = ltb-true 0 (peak (units_at xs) n) e in
          let l = peak_below (units_at xs) n (peak (units_at xs) n) p (λ j k. passed j k (b j k) p) in
          absurd (omega arith)
      by false e = let z = ltb-false 0 (peak (units_at xs) n) e in no_value n (le_refl n) (omega arith)
