-- The largest magnitude and its first value, by the two ends of the readings: the further end has both, and where the ends are as far, either has the magnitude. Assumes nothing.
use mathlib.Core.Path.{◌≡◌, refl, sym, ap, ◌∙◌}
use mathlib.Core.Bool.{Bool, true, false, not, cond}
use mathlib.Core.List.{List}
use Prim.Native.Nat.{ℕ, zero, suc, ◌≤◌, ◌<◌, zero-le, max}
use native.Mathlib.Nat.{lt_of_le_of_lt, le_trans, le_refl, le_of_eq, le_of_lt, le-max_left, le-max_right, max-eq_left, max-eq_right}
use native.Mathlib.Omega.{arith}
use borrow.Author.Tests.{ltb-true, ltb-false}
use lib.Dec.{T, ltb}
use lib.ListN.{length, get_or}
use lib.Ieee.{Float, nan, binary32, lt, neg, fits}
use lib.Ieee.Fits.{neg-fits, cond-fits}
use Rattle.numbers.specs.Steps.{nought, magnitude}
use Rattle.readings.specs.Readings.{largest, largest_value}
use Rattle.readings.specs.Inner.{end_of}
use Rattle.readings.proofs.Peaks.{peak, peak_same, peak_both}
use Rattle.readings.proofs.Largest.{units_of, units_at, Measured, same_size, units_are, none, largest_measured}
use Rattle.readings.proofs.FirstLargest.{taken?, no_value}
use Rattle.readings.proofs.Sides.{units_to, units_to_at, units_both, units_turned, nought_units, Far, nowhere, somewhere, beyond, beyond_is, far_of, taken, far_units, far_fits, same_far, end_far}

-- an end upward is not negative
measured_up : {a : Float} {k : ℕ} → Far false a k → Measured a k
measured_up nowhere = none
measured_up (somewhere h p) = p

module _ (xs : List Float) (fit : (i : ℕ) → T (fits binary32 (get_or xs i nan))) where
  -- how far the end on the side s is
  abbrev pub far : Bool → ℕ
  far s = peak (units_to_at s xs) (length xs)

  both : peak (units_at xs) (length xs) ≡ max (far false) (far true)
  both = peak_same (units_at xs) (λ i. max (units_to_at false xs i) (units_to_at true xs i)) (length xs) (λ i l. units_both (get_or xs i nan)) ∙ peak_both (units_to_at false xs) (units_to_at true xs) (length xs)

  largest_is : Measured (largest xs (length xs)) (max (far false) (far true))
  largest_is = rw both at (largest_measured xs (length xs) (λ i l. fit i))

  -- the other end, turned over
  other_units : (s : Bool) → units_to s (neg (end_of (not s) xs)) ≡ far (not s)
  other_units s = units_turned s (end_of (not s) xs) ∙ far_units (end_far (not s) xs fit)

  other_fits : (s : Bool) → T (fits binary32 (neg (end_of (not s) xs)))
  other_fits s = neg-fits binary32 (end_of (not s) xs) (far_fits (end_far (not s) xs fit))

  -- the larger of the upper end and the lower one turned over
  pub larger_end : cond (lt (end_of false xs) (neg (end_of true xs))) (neg (end_of true xs)) (end_of false xs) ≡ largest xs (length xs)
  larger_end = same_size (measured_up (rw (other_units false) at (taken false (neg (end_of true xs)) (other_fits false) (end_far false xs fit)))) largest_is

  -- what the tests of the ends tell
  pub other_further : (s : Bool) → beyond s (end_of s xs) (neg (end_of (not s) xs)) ≡ ltb (far s) (far (not s))
  other_further s = beyond_is s (neg (end_of (not s) xs)) (other_fits s) (end_far s xs fit) ∙ ap (ltb (far s)) (other_units s)

  pub above_zero : lt nought (end_of false xs) ≡ ltb 0 (far false)
  above_zero = beyond_is false (end_of false xs) (far_fits (end_far false xs fit)) nowhere ∙ ap (ltb 0) (far_units (end_far false xs fit))

  -- ---- the first value of largest magnitude has as many units as any, and no more on either side than the end there

  value_fits : (k : ℕ) → T (fits binary32 (largest_value xs k))
  unfolding largest_value
  value_fits zero = none.held
  value_fits (suc k) = cond-fits binary32 (lt (largest xs k) (magnitude (get_or xs k nan))) (get_or xs k nan) (largest_value xs k) (fit k) (value_fits k)

  value_units : (k : ℕ) → units_of (largest_value xs k) ≡ peak (units_at xs) k
  unfolding largest_value
  value_units zero = units_are none
  value_units (suc k) = rw (taken? xs (suc k) (λ i l. fit i) k (le_refl (suc k))) (by (ltb (peak (units_at xs) k) (units_at xs k)) refl (value_units k))
    where
      by : (t : Bool) → ltb (peak (units_at xs) k) (units_at xs k) ≡ t → units_of (largest_value xs k) ≡ peak (units_at xs) k → units_of (cond t (get_or xs k nan) (largest_value xs k)) ≡ max (peak (units_at xs) k) (units_at xs k)
      by true e h = sym (max-eq_right (le_of_lt (ltb-true (peak (units_at xs) k) (units_at xs k) e)))
      by false e h = h ∙ sym (max-eq_left (ltb-false (peak (units_at xs) k) (units_at xs k) e))

  value_within : (s : Bool) (k : ℕ) → units_to s (largest_value xs k) ≤ peak (units_to_at s xs) k
  unfolding largest_value
  value_within s zero = le_of_eq (nought_units s)
  value_within s (suc k) = by (lt (largest xs k) (magnitude (get_or xs k nan))) (value_within s k)
    where
      by : (t : Bool) → units_to s (largest_value xs k) ≤ peak (units_to_at s xs) k → units_to s (cond t (get_or xs k nan) (largest_value xs k)) ≤ max (peak (units_to_at s xs) k) (units_to_at s xs k)
      by true h = le-max_right (peak (units_to_at s xs) k) (units_to_at s xs k)
      by false h = le_trans h (le-max_left (peak (units_to_at s xs) k) (units_to_at s xs k))

  -- so it is the further end
  pub further_end : (s : Bool) → far (not s) < far s → largest_value xs (length xs) ≡ end_of s xs
  further_end s h = same_far (rw (all s h) at (far_of s (largest_value xs (length xs)) (value_fits (length xs)) (rw (all s h) (lt_of_le_of_lt zero-le h)))) (end_far s xs fit)
    where
      all : (s : Bool) → far (not s) < far s → units_to s (largest_value xs (length xs)) ≡ far s
      all false h = omega (arith, value_units (length xs), both, units_both (largest_value xs (length xs)), value_within false (length xs), value_within true (length xs))
      all true h = omega (arith, value_units (length xs), both, units_both (largest_value xs (length xs)), value_within false (length xs), value_within true (length xs))

  -- ---- where the ends are as far as one another

  pub same_ends : far false ≡ far true → end_of false xs ≡ largest xs (length xs)
  same_ends e = same_size (measured_up (end_far false xs fit)) (rw one at largest_is)
    where
      one : max (far false) (far true) ≡ far false
      one = omega arith

  pub no_ends : far false ≡ far true → far false ≡ 0 → largest_value xs (length xs) ≡ nought
  no_ends e z = no_value xs (length xs) (λ i l. fit i) (length xs) (le_refl (length xs)) (omega (arith, both))
