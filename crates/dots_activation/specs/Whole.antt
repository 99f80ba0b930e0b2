-- Whole numbers: sums over a range of places, and how large a number is. Definitions only.
use Rattle.std.specs.Prelude.{ℕ, zero, suc, ◌≤◌, Bool, false, List, eqb, ℤ, pos, negsuc, nat_abs, ◌+ℤ◌, get_or}

-- the whole number at place i of a list
abbrev pub elem : List ℤ → ℕ → ℤ
elem l i = get_or l i (pos 0)

-- f 0 + f 1 + .. + f (k - 1)
unfoldable pub sum_ℤ : (ℕ → ℤ) → ℕ → ℤ
sum_ℤ f zero = pos 0
sum_ℤ f (suc k) = sum_ℤ f k +ℤ f k

-- z is from -B to B. A record, so that a fact shows its z.
pub record Within (B : ℕ) (z : ℤ) : Type 0 where
  pub abs : nat_abs z ≤ B

-- two whole numbers are the same
abbrev pub eq_z : ℤ → ℤ → Bool
eq_z (pos a) (pos b) = eqb a b
eq_z (pos a) (negsuc b) = false
eq_z (negsuc a) (pos b) = false
eq_z (negsuc a) (negsuc b) = eqb a b
