-- Document 01, "Readings to small integers": the integer dot of a row. Definitions only.
use Rattle.std.specs.Prelude.{ℕ, ◌*◌, ◌%◌, not, cond, List, ltb, eqb, length, Float, Ok}
use Rattle.refusals.specs.Said.{Said}
use Rattle.refusals.specs.Refusals.{given}
use Rattle.refusals.specs.Sizes.{most_in}
use Rattle.refusals.specs.declared.refusal.Refusal.TheVariants.{NotWholeBlocks, ReadingsShort, TooLarge}
use Rattle.memory.specs.Lists.{table, part, stretches_in, stretch_length}
use Rattle.numbers.specs.Steps.{nought}
use Rattle.layouts.specs.Formats.{bytes_k}
use Rattle.layouts.specs.Weights.{block}
use Rattle.layouts.specs.Counts.{weights_short}
use Rattle.layouts.specs.declared.format.Format.TheVariants.{OfK}
use Rattle.layouts.specs.declared.format.FormatK.{FormatK}
use Rattle.sums_tree.specs.Tree.{tree}
use Rattle.dots_activation.specs.Blocks.{block_of}
use Rattle.dots_integer.specs.Dots.{dot_with}

-- the dot of block b of n places: its readings quantised, 256 or as many as are left, over as many places
abbrev pub block_at : FormatK → List Float → List ℕ → ℕ → ℕ → Float
block_at f x w n b =
    dot_with f (block (OfK f) w b) (block_of (part x (256 * b) (stretch_length 256 n b))) (stretch_length 256 n b)

-- row results meet in the tree
unfoldable pub integer_row : FormatK → List Float → List ℕ → ℕ → Float
integer_row f x w n = tree (table (block_at f x w n) (stretches_in 256 n))

-- `integer_dot_q4k`, `integer_dot_q5k`: over a size; packed bytes that are not whole blocks; n = 0 answers +0.0; fewer
-- weights than needed; fewer readings; and otherwise the row's dot
unfoldable pub integer_says : FormatK → List Float → List ℕ → ℕ → Said Float
integer_says f x w n =
    given TooLarge (ltb most_in n)
    (given NotWholeBlocks (not (eqb (length w % bytes_k f) 0))
    (cond (eqb n 0) (Ok nought)
    (given (weights_short f (length w) (stretches_in 256 n)) (ltb (length w) (stretches_in 256 n * bytes_k f))
    (given ReadingsShort (ltb (length x) n)
    (Ok (integer_row f x w n))))))
