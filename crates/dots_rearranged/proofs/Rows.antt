-- The integer dot of a row whose full blocks are moved, and the integer layers, every row of which is moved alike. Assumes nothing.
use mathlib.Core.Path.{◌≡◌, ap}
use mathlib.Core.Bool.{cond}
use mathlib.Core.List.{List}
use Prim.Native.Nat.{ℕ, ◌+◌, ◌*◌, ◌/◌, ◌≤◌, ◌<◌}
use native.Mathlib.Nat.{le_trans, mul-le-mul_right}
use native.Mathlib.Omega.{arith}
use native.Mathlib.Decide.{dec_lt}
use borrow.Author.Tests.{ltb-false}
use lib.Dec.{eqb}
use lib.ListN.{length}
use lib.Ieee.{Float}
use Rattle.refusals.specs.Said.{Said}
use Rattle.std.proofs.Common.{Ok}
use Rattle.memory.specs.Lists.{part, stretches_in, stretch_length}
use Rattle.memory.proofs.Filled.{table_ext}
use Rattle.numbers.specs.Steps.{nought}
use Rattle.layouts.specs.Formats.{bytes_k}
use Rattle.layouts.specs.declared.format.FormatK.{FormatK}
use Rattle.sums_tree.specs.Tree.{tree}
use Rattle.dots_activation.specs.Blocks.{block_of}
use Rattle.dots_integer_row.specs.Rows.{block_at, integer_row, integer_says}
use Rattle.dots_rearranged.specs.Moved.{run, Rearrangements, of_block, moved_weights, moved_readings}
use Rattle.dots_rearranged.specs.Laws.{Singles}
use Rattle.dots_rearranged.proofs.Weights.{weights_long, weights_behind, weights_moved}
use Rattle.dots_rearranged.proofs.Activations.{readings_long, readings_behind, readings_moved}
use Rattle.dots_rearranged.proofs.Blocks.{given_same, with_moved}

-- ---- a row: the full blocks of n places

module _ (f : FormatK) (orders : ℕ → List ℕ) (each : Rearrangements f orders) (x : List Float) (w : List ℕ) (n : ℕ) (single : Singles x) (read : n ≤ length x) (weighed : stretches_in 256 n * bytes_k f ≤ length w) where
  abbrev x' : List Float
  x' = moved_readings f orders (n / 256) x

  abbrev w' : List ℕ
  w' = moved_weights f orders (n / 256) w

  full : (b : ℕ) → b < n / 256 → block_at f x' w' n b ≡ block_at f x w n b
  full b h =
      let size : stretch_length 256 n b ≡ 256 = omega arith in
      let enough : n / 256 * bytes_k f ≤ length w = le_trans (mul-le-mul_right (bytes_k f) (omega arith)) weighed in
      rw (size, readings_moved f orders (n / 256) x each single b h (omega arith))
      (with_moved f (of_block f orders b) (λ r. each (256 / run f * b + r)) (block_of (part x (256 * b) 256)) _ _ (weights_moved f orders (n / 256) w each b h enough))

  -- the last block, where it is not full
  kept : (b : ℕ) → n / 256 ≤ b → block_at f x' w' n b ≡ block_at f x w n b
  kept b h = rw (weights_behind f orders (n / 256) w (b * bytes_k f) (bytes_k f) (mul-le-mul_right (bytes_k f) h), readings_behind f orders (n / 256) x (256 * b) (stretch_length 256 n b) (omega arith))

  row_block : (b : ℕ) → block_at f x' w' n b ≡ block_at f x w n b
  row_block b = by (dec_lt b (n / 256))
    where
      by : Dec (b < n / 256) → block_at f x' w' n b ≡ block_at f x w n b
      by (yes h) = full b h
      by (no h) = kept b (omega arith)

  row_kept : integer_row f x' w' n ≡ integer_row f x w n
  unfolding integer_row
  row_kept = ap tree (table_ext _ _ (stretches_in 256 n) (λ b h. row_block b))

pub row_dots : (f : FormatK) (orders : ℕ → List ℕ) → Rearrangements f orders → (x : List Float) (w : List ℕ) (n : ℕ) → Singles x
    → integer_says f (moved_readings f orders (n / 256) x) (moved_weights f orders (n / 256) w) n ≡ integer_says f x w n
unfolding integer_says
row_dots f orders each x w n single =
    rw (readings_long f orders (n / 256) x, weights_long f orders (n / 256) w)
    (given_same _ _ (λ a. given_same _ _ (λ b. ap (λ (later : Said Float). cond (eqb n 0) (Ok nought) later) (given_same _ _ (λ c. given_same _ _ (λ d. ap Ok (row_kept f orders each x w n single (ltb-false _ _ d) (ltb-false _ _ c))))))))
