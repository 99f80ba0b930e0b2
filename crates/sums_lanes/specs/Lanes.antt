-- The eight lanes, and the sum of a chunk. The terms of a sum are given by their place: p i is term i of the chunk.
-- Definitions only.
use Rattle.std.specs.Prelude.{List, ℕ, zero, suc, ◌%◌, get_or, set, replicate, Float}
use Rattle.std.specs.Float.{nan, binary32}
use Rattle.std.specs.Float.Ieee.{add, mul}
use Rattle.numbers.specs.Steps.{nought}
use Rattle.sums_tree.specs.Tree.{tree}

-- v is added to lane j
unfoldable pub add_to : List Float → ℕ → Float → List Float
add_to l j v = set l j (add binary32 (get_or l j nan) v)

-- the lanes l after the first n terms: term i is added to lane i mod 8, i rising
unfoldable pub lanes_from : List Float → (ℕ → Float) → ℕ → List Float
lanes_from l p zero = l
lanes_from l p (suc i) = add_to (lanes_from l p i) (i % 8) (p i)

-- eight lanes start at +0.0
unfoldable pub lanes : (ℕ → Float) → ℕ → List Float
lanes p n = lanes_from (replicate 8 nought) p n

-- lanes meet in a pairwise tree
unfoldable pub chunk_sum : (ℕ → Float) → ℕ → Float
chunk_sum p n = tree (lanes p n)

-- the terms of a dot: element i is multiplied
abbrev pub products : List Float → List Float → ℕ → Float
products x w i = mul binary32 (get_or x i nan) (get_or w i nan)

-- the terms of a sum: element i itself
abbrev pub values : List Float → ℕ → Float
values x i = get_or x i nan
