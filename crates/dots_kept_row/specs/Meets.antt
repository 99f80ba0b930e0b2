-- How row results meet. They are given by their place: v i is the dot of block i. Definitions only.
use Rattle.std.specs.Prelude.{ℕ, zero, suc, Float}
use Rattle.std.specs.Float.{binary32}
use Rattle.std.specs.Float.Ieee.{add}
use Rattle.memory.specs.Lists.{table}
use Rattle.numbers.specs.Steps.{nought}
use Rattle.sums_tree.specs.Tree.{tree}
use Rattle.dots_kept_row.specs.declared.meeting.Meeting.{Meeting}
use Rattle.dots_kept_row.specs.declared.meeting.Meeting.TheVariants.{Tree, Running}

-- a running sum from +0.0 of the first n
unfoldable pub running : (ℕ → Float) → ℕ → Float
running v zero = nought
running v (suc n) = add binary32 (running v n) (v n)

-- Row results meet in the tree, or, in the `_rs` layers, in a running sum from +0.0.
unfoldable pub meets : Meeting → (ℕ → Float) → ℕ → Float
meets Tree v n = tree (table v n)
meets Running v n = running v n
