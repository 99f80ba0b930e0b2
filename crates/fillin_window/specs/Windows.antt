-- The layers of layer records, the readings of a window and the outputs for it. Definitions only.
use Rattle.std.specs.Prelude.{ℕ, ◌%◌, ◌≤◌, ◌≡◌, List, [], Float, Ok, Err}
use Rattle.refusals.specs.Said.{Said}
use Rattle.memory.specs.Lists.{table}
use Rattle.layouts.specs.Formats.{format_named}
use Rattle.layouts.specs.declared.format.FormatK.{FormatK}
use Rattle.layers_shape.specs.Shapes.{weight_bytes}
use Rattle.stepped_shape.specs.declared.shape.Layer.{Layer}
use Rattle.stepped_history.specs.History.{in_one_go}
use Rattle.records.specs.Kinds.{reading_at}

-- a layer within a layer record's sizes, whose weights have so many bytes
pub record Sound (l : Layer) (weights : ℕ) : Type 0 where
  pub known : FormatK
  pub named : format_named l.format ≡ Ok known
  pub inputs : l.in_feat ≤ 2048
  pub blocks : l.in_feat % 256 ≡ 0
  pub outputs : l.out_feat ≤ 16
  pub weighed : weights ≡ weight_bytes known l.in_feat l.out_feat

-- a window's readings, of the bytes that have them
abbrev pub readings_of : List ℕ → Layer → List Float
readings_of x l = table (reading_at x) l.in_feat

-- the outputs of a layer, by what its format byte names: for each row, the fixed-order dot of the readings and the row
-- decoded, which is the fused float dot
abbrev pub outputs_by : Said FormatK → Layer → List ℕ → List Float → List Float
outputs_by (Ok f) l w x = table (in_one_go f l w x) l.out_feat
outputs_by (Err why) l w x = []

-- the outputs of a layer
abbrev pub outputs_of : Layer → List ℕ → List Float → List Float
outputs_of l w x = outputs_by (format_named l.format) l w x
