-- What the steps inside an activation block and its dots work with: values in pairs, the two halves of a sub-block side
-- by side. Definitions only.
use Rattle.std.specs.Prelude.{ℕ, ◌+◌, ◌*◌, ◌/◌, ◌%◌, ◌<◌, List, ℤ, ◌+ℤ◌}
use Rattle.dots_activation.specs.Whole.{elem, sum_ℤ, Within}

-- pair i, which is 16 j + l: the sum of f at places l and l + 16 of sub-block j
abbrev pub pair_of : (ℕ → ℤ) → ℕ → ℤ
pair_of f i = f (32 * (i / 16) + i % 16) +ℤ f (32 * (i / 16) + (16 + i % 16))

-- each of 128 pairs is at most B in size
pub record PairsWithin (B : ℕ) (pairs : List ℤ) : Type 0 where
  pub near : (i : ℕ) → i < 128 → Within B (elem pairs i)

-- the sum of the 16 pairs of sub-block j
abbrev pub sum_of_pairs : List ℤ → ℕ → ℤ
sum_of_pairs pairs j = sum_ℤ (λ (l : ℕ). elem pairs (16 * j + l)) 16
