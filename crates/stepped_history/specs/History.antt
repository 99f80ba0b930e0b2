-- Demand 3: the history of a layer, which is an open that was not refused and then any calls of piece, run and close,
-- refused ones among them, over the same buffers, shape, readings and weights. Definitions only.
use Prim.{Unit}
use Rattle.std.specs.Prelude.{ℕ, ◌+◌, ◌≡◌, get_or, Float, Ok, Err}
use mathlib.Core.List.{List, [], ◌∷◌, Memᴰ}
use Rattle.std.specs.Float.{nan}
use Rattle.refusals.specs.Said.{Said}
use Rattle.memory.specs.Lists.{table}
use Rattle.layouts.specs.Weights.{weight_at}
use Rattle.layouts.specs.declared.format.FormatK.{FormatK}
use Rattle.layouts.specs.declared.format.Format.TheVariants.{OfK}
use Rattle.sums_lanes.specs.Lanes.{products}
use Rattle.sums.specs.Rows.{row_sum}
use Rattle.layers_shape.specs.Shapes.{weight_row}
use Rattle.stepped_shape.specs.declared.shape.Layer.{Layer}
use Rattle.stepped_shape.specs.Layer.{Memory, pieces, open_of}
use Rattle.stepped_pieces.specs.Pieces.{piece_says}
use Rattle.stepped_shape.specs.declared.progress.Progress.{Progress}
use Rattle.stepped.specs.Says.{open_says, run_says, close_says}

-- ---- the row in one go

-- the row decoded by the published layout
unfoldable pub decoded_row : FormatK → Layer → List ℕ → ℕ → List Float
decoded_row f l w row = table (weight_at (OfK f) (weight_row f w l.in_feat row)) l.in_feat

-- the fixed-order dot of the readings and the row decoded
unfoldable pub in_one_go : FormatK → Layer → List ℕ → List Float → ℕ → Float
in_one_go f l w x row = row_sum (products x (decoded_row f l w row)) l.in_feat

-- ---- the calls

-- a call, refused or not
pub data Call : Type 0 where
  piece : (row c : ℕ) → Call
  run : (budget : ℕ) → Call
  close : (row : ℕ) → Call

-- what the layer's memory and the outputs hold, how many pieces were accepted, and which rows were closed
pub record HistoryState : Type 0 where
  pub holds : Memory
  pub outputs : List Float
  pub accepted : ℕ
  pub closed : List ℕ

-- a piece that says it is done was accepted
abbrev pub accepted_by : Said (Unit {0}) → ℕ
accepted_by (Ok v) = 1
accepted_by (Err why) = 0

-- a piece that run does counts as accepted
abbrev pub accepted_by_run : Said Progress → ℕ
accepted_by_run (Ok counts) = counts.done
accepted_by_run (Err why) = 0

-- a close that says it is done closed its row
abbrev pub closed_by : Said (Unit {0}) → ℕ → List ℕ → List ℕ
closed_by (Ok v) row rows = row ∷ rows
closed_by (Err why) row rows = rows

-- one call
unfoldable pub call : Layer → List ℕ → List Float → HistoryState → Call → HistoryState
call l w x s (piece row c) =
    let r = piece_says l w x row c s.holds in
    record { holds = r.1; outputs = s.outputs; accepted = s.accepted + accepted_by r.0; closed = s.closed }
call l w x s (run budget) =
    let r = run_says l w x budget s.holds in
    record { holds = r.1; outputs = s.outputs; accepted = s.accepted + accepted_by_run r.0; closed = s.closed }
call l w x s (close row) =
    let r = close_says l row s.holds s.outputs in
    record { holds = s.holds; outputs = r.1; accepted = s.accepted; closed = closed_by r.0 row s.closed }

-- the calls, one after another
unfoldable pub calls : Layer → List ℕ → List Float → HistoryState → List Call → HistoryState
calls l w x s [] = s
calls l w x s (c ∷ cs) = calls l w x (call l w x s c) cs

-- after an open: no piece accepted yet, and no row closed
unfoldable pub opened : Layer → Memory → List Float → HistoryState
opened l m outputs = record { holds = (open_says l m).1; outputs = outputs; accepted = 0; closed = [] }

-- of a layer whose byte names f: each closed row has the bits of decoding that row by the published layout and taking
-- the fixed-order dot in one go, or both are NaN; pieces accepted plus pieces open is the layer's piece count
pub record Demand3 (f : FormatK) (l : Layer) (w : List ℕ) (x : List Float) (s : HistoryState) : Type 0 where
  pub rows : (row : ℕ) → Memᴰ row s.closed → get_or s.outputs row nan ≡ in_one_go f l w x row
  pub counted : s.accepted + open_of l s.holds.marks ≡ pieces l
