-- What `piece` says and what lent memory holds then: its own slot and its own mark, nothing else; and what a row's
-- slots come to. Definitions only.
use Prim.{Unit}
use Rattle.std.specs.Prelude.{ℕ, List, length, get_or, set, Float}
use Rattle.std.specs.Float.{nan}
use Rattle.refusals.specs.Said.{Said}
use Rattle.refusals.specs.Refusals.{carried_out}
use Rattle.memory.specs.Lists.{table}
use Rattle.layouts.specs.Formats.{format_named}
use Rattle.layouts.specs.declared.format.FormatK.{FormatK}
use Rattle.sums_tree.specs.Tree.{tree}
use Rattle.sums.specs.Rows.{chunk_at}
use Rattle.dots_fused_block.specs.Terms.{terms}
use Rattle.layers_shape.specs.Shapes.{weight_row}
use Rattle.stepped_shape.specs.declared.shape.Layer.{Layer}
use Rattle.stepped_shape.specs.Layer.{Memory, memory, chunks, place}
use Rattle.stepped_shape.specs.Refusals.{by_format, piece_refusal}

-- the chunk sum of that row's decoded weights and the readings over the places of this chunk alone
unfoldable pub sum_at : FormatK → Layer → List ℕ → List Float → (row c : ℕ) → Float
sum_at f l w x row c = chunk_at (terms f x (weight_row f w l.in_feat row)) l.in_feat c

-- its sum in its own slot, and its own mark
abbrev pub worked : FormatK → Layer → List ℕ → List Float → (row c : ℕ) → Memory → Memory
worked f l w x row c m =
    memory (set m.slots (place l row c) (sum_at f l w x row c)) (set m.marks (place l row c) 1)

-- `piece`
unfoldable pub piece_says : Layer → List ℕ → List Float → (row c : ℕ) → Memory → Said (Unit {0}) × Memory
piece_says l w x row c m =
    by_format (format_named l.format) m (λ f.
    carried_out (piece_refusal f l (length w) (length x) (length m.slots) m.marks row c)
    (worked f l w x row c m) m)

-- the row's slots met in the tree; an empty tree, of an in_feat of 0, is +0.0
unfoldable pub row_met : Layer → List Float → ℕ → Float
row_met l slots row = tree (table (λ c. get_or slots (place l row c) nan) (chunks l))
