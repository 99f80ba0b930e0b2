-- The ends of readings as numbers: how many units of 2 ^ -149 a reading lies above 0, or below it. So the order of the readings is of no account for an end either. Assumes nothing.
use mathlib.Core.Path.{◌≡◌, refl, sym, ap, ◌∙◌}
use mathlib.Core.Bool.{Bool, true, false, not, cond}
use mathlib.Core.List.{List}
use Prim.Native.Nat.{ℕ, zero, suc, ◌*◌, ◌/◌, ◌^◌, ◌<◌, zero-le, max}
use native.Mathlib.Nat.{zero-add, add_comm, lt_irrefl, lt_of_le_of_lt, lt_of_lt_of_le, le_refl, le-suc, le_of_lt, zero-mul, max-eq_left, max-eq_right}
use native.Mathlib.Omega.{arith}
use borrow.Author.Tests.{le-ltb, ltb-true, ltb-false}
use lib.Dec.{T, ltb}
use lib.ListN.{length, get_or}
use lib.Ieee.{Float, nan, inf, fin, binary32, up, down, lt, neg, fits, of_bits}
use lib.Ieee.Fits.{neg-fits}
use Rattle.numbers.specs.Steps.{nought}
use Rattle.readings.specs.Inner.{further, furthest, end_of}
use Rattle.readings.proofs.Peaks.{peak}
use Rattle.readings.proofs.Largest.{units_of, Measured, Size, infinite, finite, measured, under_nan, under_minus, lt_size, same_size, units_are, none}

-- how many units v lies above 0, ..
abbrev pub units_up : Float → ℕ
units_up nan = 0
units_up (inf true) = 0
units_up (inf false) = 2 ^ 277
units_up (fin true m e) = 0
units_up (fin false m e) = m * up e * 2 ^ 149 / down e

-- .. or below it
abbrev pub turned : Bool → Float → Float
turned s v = cond s (neg v) v

abbrev pub units_to : Bool → Float → ℕ
units_to s v = units_up (turned s v)

-- .. and how many reading i does
abbrev pub units_to_at : Bool → List Float → ℕ → ℕ
units_to_at s xs i = units_to s (get_or xs i nan)

neg_neg : (v : Float) → neg (neg v) ≡ v
unfolding neg
neg_neg nan = refl
neg_neg (inf true) = refl
neg_neg (inf false) = refl
neg_neg (fin true m e) = refl
neg_neg (fin false m e) = refl

turned_twice : (s : Bool) (v : Float) → turned s (turned s v) ≡ v
turned_twice false v = refl
turned_twice true v = neg_neg v

turned_fits : (s : Bool) (v : Float) → T (fits binary32 v) → T (fits binary32 (turned s v))
turned_fits false v t = t
turned_fits true v t = neg-fits binary32 v t

-- a reading has the units of the side on which it lies
pub units_both : (v : Float) → units_of v ≡ max (units_to false v) (units_to true v)
unfolding neg
units_both nan = refl
units_both (inf true) = refl
units_both (inf false) = refl
units_both (fin true m e) = sym (max-eq_right zero-le)
units_both (fin false m e) = sym (max-eq_left zero-le)

pub units_turned : (s : Bool) (v : Float) → units_to s (neg v) ≡ units_to (not s) v
units_turned false v = refl
units_turned true v = ap units_up (neg_neg v)

-- a, on the side s, is k units from 0, and +0.0 where k is 0
pub data Far (s : Bool) : Float → ℕ → Type 0 where
  nowhere : Far s nought 0
  somewhere : {a : Float} {k : ℕ} → 0 < k → Measured (turned s a) k → Far s a k

-- ---- whether a reading is further

under_up : (v : Float) → T (fits binary32 v) → {a : Float} {k : ℕ} → Measured a k → lt a v ≡ ltb k (units_up v)
unfolding lt
under_up nan t {a} {k} p = under_nan a ∙ sym (le-ltb k 0 zero-le)
under_up (inf true) t {a} {k} p = under_minus_inf p.size ∙ sym (le-ltb k 0 zero-le)
  where
    under_minus_inf : {a : Float} {k : ℕ} → Size a k → lt a (inf true) ≡ false
    under_minus_inf infinite = refl
    under_minus_inf (finite q h) = rw q.shape
under_up (inf false) t p = lt_size p.size infinite
under_up (fin true m e) t {a} {k} p = under_minus m e p.size ∙ sym (le-ltb k 0 zero-le)
under_up (fin false m e) t p = lt_size p.size (measured m e t).size

-- the order turned over
lt_turned : (v a : Float) → lt v a ≡ lt (neg a) (neg v)
unfolding lt neg
lt_turned nan nan = refl
lt_turned nan (inf s) = refl
lt_turned nan (fin s m e) = refl
lt_turned (inf s) nan = refl
lt_turned (inf true) (inf true) = refl
lt_turned (inf true) (inf false) = refl
lt_turned (inf false) (inf true) = refl
lt_turned (inf false) (inf false) = refl
lt_turned (inf true) (fin t n d) = refl
lt_turned (inf false) (fin t n d) = refl
lt_turned (fin s m e) nan = refl
lt_turned (fin s m e) (inf true) = refl
lt_turned (fin s m e) (inf false) = refl
lt_turned (fin true m e) (fin true n d) = refl
lt_turned (fin true m e) (fin false n d) = ap (ltb 0) (add_comm (m * up e * down d) (n * up d * down e))
lt_turned (fin false m e) (fin true n d) = refl
lt_turned (fin false m e) (fin false n d) = refl

-- -0.0 is below what lies above 0
over_minus_zero : (w : Float) → T (fits binary32 w) → lt (neg nought) w ≡ ltb 0 (units_up w)
unfolding lt neg of_bits
over_minus_zero nan t = refl
over_minus_zero (inf true) t = refl
over_minus_zero (inf false) t = refl
over_minus_zero (fin true m e) t = le-ltb (m * up e * 1) (0 * down e) (rw zero-mul zero-le)
over_minus_zero (fin false m e) t = rw (zero-mul (down e), zero-add) (rw (zero-mul (down e)) at (lt_size none.size (measured m e t).size))

-- whether v is further than a
abbrev pub beyond : Bool → Float → Float → Bool
beyond false a v = lt a v
beyond true a v = lt v a

further_is : (s : Bool) (a v : Float) → further s a v ≡ cond (beyond s a v) v a
further_is false a v = refl
further_is true a v = refl

pub beyond_is : (s : Bool) (v : Float) → T (fits binary32 v) → {a : Float} {k : ℕ} → Far s a k → beyond s a v ≡ ltb k (units_to s v)
beyond_is false v t nowhere = under_up v t none
beyond_is false v t (somewhere h p) = under_up v t p
beyond_is true v t nowhere = lt_turned v nought ∙ over_minus_zero (neg v) (neg-fits binary32 v t)
beyond_is true v t {a} (somewhere h p) = lt_turned v a ∙ under_up (neg v) (neg-fits binary32 v t) p

-- ---- the further of two, and the furthest

up_measured : (v : Float) → T (fits binary32 v) → 0 < units_up v → Measured v (units_up v)
up_measured nan t h = absurd (lt_irrefl 0 h)
up_measured (inf true) t h = absurd (lt_irrefl 0 h)
up_measured (inf false) t h = record { held = t; size = infinite }
up_measured (fin true m e) t h = absurd (lt_irrefl 0 h)
up_measured (fin false m e) t h = measured m e t

pub far_of : (s : Bool) (v : Float) → T (fits binary32 v) → 0 < units_to s v → Far s v (units_to s v)
far_of s v t h = somewhere h (up_measured (turned s v) (turned_fits s v t) h)

-- a reading is taken or passed over
pub taken : (s : Bool) (v : Float) → T (fits binary32 v) → {a : Float} {k : ℕ} → Far s a k → Far s (further s a v) (max k (units_to s v))
taken s v t {a} {k} p = rw (further_is s a v, beyond_is s v t p) (by (ltb k (units_to s v)) refl)
  where
    by : (b : Bool) → ltb k (units_to s v) ≡ b → Far s (cond b v a) (max k (units_to s v))
    by true e =
        let l = ltb-true k (units_to s v) e in
        rw (max-eq_right (le_of_lt l)) (far_of s v t (lt_of_le_of_lt zero-le l))
    by false e = rw (max-eq_left (ltb-false k (units_to s v) e)) p

-- +0.0 is no units on either side
pub nought_units : (s : Bool) → units_to s nought ≡ 0
unfolding of_bits neg
nought_units false = refl
nought_units true = refl

-- the units are those of the float, and it is one of the format
pub far_units : {s : Bool} {a : Float} {k : ℕ} → Far s a k → units_to s a ≡ k
far_units {s} nowhere = nought_units s
far_units (somewhere h p) = up_are p.size ∙ units_are p
  where
    up_are : {x : Float} {k : ℕ} → Size x k → units_up x ≡ units_of x
    up_are infinite = refl
    up_are (finite q h) = rw q.shape

pub far_fits : {s : Bool} {a : Float} {k : ℕ} → Far s a k → T (fits binary32 a)
far_fits nowhere = none.held
far_fits {s} {a} (somewhere h p) = rw (turned_twice s a) at (turned_fits s (turned s a) p.held)

pub further_far : {s : Bool} {a b : Float} {k l : ℕ} → Far s a k → Far s b l → Far s (further s a b) (max k l)
further_far {s} {a} {b} p q = rw (far_units q) at (taken s b (far_fits q) p)

-- the number says which float it is
pub same_far : {s : Bool} {a b : Float} {k : ℕ} → Far s a k → Far s b k → a ≡ b
same_far nowhere nowhere = refl
same_far nowhere (somewhere h q) = absurd (lt_irrefl 0 h)
same_far (somewhere h p) nowhere = absurd (lt_irrefl 0 h)
same_far {s} {a} {b} (somewhere h p) (somewhere g q) = sym (turned_twice s a) ∙ ap (turned s) (same_size p q) ∙ turned_twice s b

pub furthest_far : (s : Bool) (xs : List Float) (n : ℕ) → ((i : ℕ) → i < n → T (fits binary32 (get_or xs i nan))) → {a : Float} {k : ℕ} → Far s a k
    → Far s (furthest s a xs n) (max k (peak (units_to_at s xs) n))
unfolding furthest
furthest_far s xs zero h p = rw (max-eq_left zero-le) p
furthest_far s xs (suc n) h {a} {k} p =
    let e : max (max k (peak (units_to_at s xs) n)) (units_to_at s xs n) ≡ max k (peak (units_to_at s xs) (suc n)) = omega arith in
    rw e at (taken s (get_or xs n nan) (h n (le_refl (suc n))) (furthest_far s xs n (λ i l. h i (lt_of_lt_of_le l (le-suc n))) p))

pub end_far : (s : Bool) (xs : List Float) → ((i : ℕ) → T (fits binary32 (get_or xs i nan))) → Far s (end_of s xs) (peak (units_to_at s xs) (length xs))
end_far s xs h = rw (max-eq_right zero-le) at (furthest_far s xs (length xs) (λ i l. h i) nowhere)
