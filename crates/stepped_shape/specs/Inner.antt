-- What a piece that is worked relies on, once nothing was refused: what the functions behind the calls require. A
-- buffer goes in by its length.
use Rattle.std.specs.Prelude.{ℕ, ◌≤◌, ◌<◌, ◌≡◌}
use Rattle.refusals.specs.Said.{done}
use Rattle.layouts.specs.declared.format.FormatK.{FormatK}
use Rattle.layers_shape.specs.Shapes.{weight_bytes}
use Rattle.stepped_shape.specs.declared.shape.Layer.{Layer}
use Rattle.stepped_shape.specs.Layer.{chunks, pieces}
use Rattle.stepped_shape.specs.Refusals.{shape_refusal}

-- the layer's shape, and weights and readings for all of it
pub record LayerReady (f : FormatK) (l : Layer) (weights readings : ℕ) : Type 0 where
  pub shape : shape_refusal l ≡ done
  pub weights_enough : weight_bytes f l.in_feat l.out_feat ≤ weights
  pub readings_enough : l.in_feat ≤ readings

-- a slot and a mark for each piece
pub record PieceRoom (l : Layer) (slots marks : ℕ) : Type 0 where
  pub slots_enough : pieces l ≤ slots
  pub marks_enough : pieces l ≤ marks

-- a piece of the layer
pub record InLayer (l : Layer) (row c : ℕ) : Type 0 where
  pub row_in : row < l.out_feat
  pub chunk_in : c < chunks l
