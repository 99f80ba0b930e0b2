-- A row: chunks are 8,192 long, and their sums meet in the same tree. Definitions only.
use Rattle.std.specs.Prelude.{ℕ, ◌+◌, ◌*◌, Float}
use Rattle.memory.specs.Lists.{table, stretches_in, stretch_length}
use Rattle.sums_tree.specs.Tree.{tree}
use Rattle.sums_lanes.specs.Lanes.{chunk_sum}

-- how many chunks n places make
abbrev pub chunks_in : ℕ → ℕ
chunks_in n = stretches_in 8192 n

-- how many places chunk c of n places has
abbrev pub chunk_length : ℕ → ℕ → ℕ
chunk_length n c = stretch_length 8192 n c

-- the sum of chunk c of n terms
unfoldable pub chunk_at : (ℕ → Float) → ℕ → ℕ → Float
chunk_at p n c = chunk_sum (λ i. p (8192 * c + i)) (chunk_length n c)

-- the chunks' sums meet in the same tree
unfoldable pub row_sum : (ℕ → Float) → ℕ → Float
row_sum p n = tree (table (chunk_at p n) (chunks_in n))
