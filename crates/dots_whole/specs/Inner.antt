-- What the steps inside a block dot work with: products in pairs, and lanes of them. Definitions only.
use Rattle.std.specs.Prelude.{ℕ, ◌+◌, ◌*◌, ◌<◌, List, ℤ, pos, ◌+ℤ◌, ◌*ℤ◌, length, get_or}
use Rattle.layouts.specs.K.{scale_q4k}
use Rattle.dots_activation.specs.Whole.{elem, sum_ℤ, Within}
use Rattle.dots_activation.specs.Inner.{sum_of_pairs}

-- each quant is below 32, as one of five bits is
pub record FiveBits (q : List ℕ) : Type 0 where
  pub small : (i : ℕ) → i < length q → get_or q i 0 < 32

-- quant times activation quant at place i
abbrev pub product_at : List ℕ → List ℤ → ℕ → ℤ
product_at q x i = pos (get_or q i 0) *ℤ elem x i

-- the sum of a block's products in pairs, each sub-block's times its scale
abbrev pub pairs_weighed : List ℕ → List ℤ → ℤ
pairs_weighed w pairs = sum_ℤ (λ (j : ℕ). pos (scale_q4k w j) *ℤ sum_of_pairs pairs j) 8

-- what sub-block j brings to lane l: its scale times two of its pairs
abbrev pub lane_term : List ℕ → List ℤ → ℕ → ℕ → ℤ
lane_term w pairs l j = pos (scale_q4k w j) *ℤ (elem pairs (16 * j + l) +ℤ elem pairs (16 * j + (8 + l)))

-- lane l, of all eight sub-blocks
abbrev pub lane_at : List ℕ → List ℤ → ℕ → ℤ
lane_at w pairs l = sum_ℤ (lane_term w pairs l) 8

-- each of eight lanes is at most B in size
pub record LanesWithin (B : ℕ) (lanes : List ℤ) : Type 0 where
  pub near : (l : ℕ) → l < 8 → Within B (elem lanes l)
