-- Rearrangements of places. Definitions only.
use Rattle.std.specs.Prelude.{ℕ, suc, ◌+◌, ◌-◌, ◌*◌, ◌/◌, ◌%◌, ◌<◌, ◌≡◌, cond, List, [], ◌∷◌, ltb, eqb, length, get_or}
use Rattle.memory.specs.Lists.{table}

-- how often a list has j
abbrev pub times : ℕ → List ℕ → ℕ
times j [] = 0
times j (p ∷ ps) = cond (eqb p j) (suc (times j ps)) (times j ps)

-- a rearrangement of R places: a list of R that has each place below R once
pub record Rearrangement (R : ℕ) (ps : List ℕ) : Type 0 where
  pub long : length ps ≡ R
  pub once : (j : ℕ) → j < R → times j ps ≡ 1

-- Runs of R places, run r rearranged by `orders r`: the place from which place i is filled, one of the same run.
abbrev pub from : ℕ → (ℕ → List ℕ) → ℕ → ℕ
from R orders i = R * (i / R) + get_or (orders (i / R)) (i % R) 0

-- nothing is moved
abbrev pub unmoved : ℕ → List ℕ
unmoved R = table (λ (i : ℕ). i) R

-- run r rearranged by ps, and no other
abbrev pub alone : ℕ → ℕ → List ℕ → ℕ → List ℕ
alone R r ps s = cond (eqb s r) ps (unmoved R)

-- Two channels that come reading by reading are put together: the even places fill the first half of a run, and the
-- odd ones the second.
abbrev pub two_channels : ℕ → List ℕ
two_channels R = table (λ (i : ℕ). cond (ltb i (R / 2)) (2 * i) (2 * (i - R / 2) + 1)) R
