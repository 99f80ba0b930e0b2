-- `readings::first_of` meets its contract: no reading before it reaches the largest magnitude. Assumes nothing.
use mathlib.Core.Path.{◌≡◌}
use mathlib.Core.Bool.{false}
use mathlib.Core.List.{List}
use Prim.Native.Nat.{ℕ, ◌<◌}
use lib.ListN.{get_or}
use lib.Ieee.{Float, nan}
use Rattle.readings.proofs.FirstLargest.{reached}
use Rattle.readings.proofs.magnitudes.first_of.Given as goal

-- the readings before i do not reach `most`
abbrev pub Passed : List Float → Float → ℕ → Type 0
Passed x most i = (j : ℕ) → j < i → reached (get_or x j nan) most ≡ false

abbrev pub invariant-loop-v : goal.invariant-loop-v
invariant-loop-v l = Passed l.x l.most l.v-index
