-- A layer has a format, in_feat and out_feat, one reading row, a slot and a mark per (row, chunk), row-major.
-- Definitions only.
use Rattle.std.specs.Prelude.{ℕ, ◌+◌, ◌*◌, cond, List, [], ◌∷◌, eqb, take, Float}
use Rattle.memory.specs.Lists.{part}
use Rattle.sums.specs.Rows.{chunks_in}
use Rattle.stepped_shape.specs.declared.shape.Layer.{Layer}

-- the layer of a format, in_feat and out_feat
abbrev pub layer_of : (format in_feat out_feat : ℕ) → Layer
layer_of format in_feat out_feat = record { format = format; in_feat = in_feat; out_feat = out_feat }

-- what a layer is worked in: a slot, for a sum, and a mark for each piece
pub record Memory : Type 0 where
  pub slots : List Float
  pub marks : List ℕ

-- the memory of these slots and marks
abbrev pub memory : List Float → List ℕ → Memory
memory slots marks = record { slots = slots; marks = marks }

-- ---- the pieces

-- the chunks of a row: none where in_feat is 0
unfoldable pub chunks : Layer → ℕ
chunks l = chunks_in l.in_feat

-- the piece count
unfoldable pub pieces : Layer → ℕ
pieces l = l.out_feat * chunks l

-- the place of (row, chunk) among slots and marks, row-major
unfoldable pub place : Layer → ℕ → ℕ → ℕ
place l row c = row * chunks l + c

-- ---- the marks

-- a nonzero mark means done: 1 for a piece that is open, 0 for one that is done
abbrev pub is_open : ℕ → ℕ
is_open mark = cond (eqb mark 0) 1 0

-- how many of these marks are open
unfoldable pub open_count : List ℕ → ℕ
open_count [] = 0
open_count (m ∷ ms) = is_open m + open_count ms

-- how many of the layer's pieces are open
unfoldable pub open_of : Layer → List ℕ → ℕ
open_of l marks = open_count (take (pieces l) marks)

-- how many pieces of a row are open
unfoldable pub open_in_row : Layer → List ℕ → ℕ → ℕ
open_in_row l marks row = open_count (part marks (row * chunks l) (chunks l))
