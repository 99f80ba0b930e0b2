-- How the `_cpu` layers fill the output: a row of weights is decoded once, and serves its place in every row of the
-- output. Only the contracts of their loops cite this. Definitions only.
use Rattle.std.specs.Prelude.{ℕ, zero, suc, ◌+◌, ◌*◌, List, set, Float}
use Rattle.memory.specs.Lists.{filled}
use Rattle.layouts.specs.declared.format.Format.{Format}
use Rattle.layers_cpu.specs.Says.{row_weight}

-- y, in rows of n places, after place o of its first b rows
unfoldable pub column : (ℕ → Float) → ℕ → ℕ → List Float → ℕ → List Float
column value n o y zero = y
column value n o y (suc b) = set (column value n o y b) (b * n + o) (value b)

-- y after the first o places of each of its rows
unfoldable pub columns : (ℕ → ℕ → Float) → ℕ → ℕ → List Float → ℕ → List Float
columns value batch n y zero = y
columns value batch n y (suc o) = column (λ b. value b o) n o (columns value batch n y o) batch

-- scratch after the first o rows of n weights: the last of them decoded
unfoldable pub scratch_of : Format → List ℕ → ℕ → List Float → ℕ → List Float
scratch_of f w n scratch zero = scratch
scratch_of f w n scratch (suc o) = filled (row_weight f w n o) scratch n
