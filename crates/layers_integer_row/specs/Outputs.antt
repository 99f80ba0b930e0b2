-- The outputs of the integer layers. Definitions only.
use Rattle.std.specs.Prelude.{ℕ, ◌/◌, List, Float}
use Rattle.layouts.specs.declared.format.FormatK.{FormatK}
use Rattle.dots_integer_row.specs.Rows.{block_at}
use Rattle.layers_shape.specs.declared.Shape.{Shape}
use Rattle.layers_shape.specs.Shapes.{reading_row, weight_row, outputs}
use Rattle.dots_kept_row.specs.declared.meeting.Meeting.{Meeting}
use Rattle.dots_kept_row.specs.Meets.{meets}

-- the integer dot of a row of n readings, quantised block by block, and row o of the weights
abbrev pub integer_dot_at : FormatK → Meeting → List Float → List ℕ → ℕ → ℕ → Float
integer_dot_at f m x w n o = meets m (block_at f x (weight_row f w n o) n) (n / 256)

-- every output is the integer dot of its rows
abbrev pub integer_outputs : FormatK → Meeting → Shape → List Float → List ℕ → List Float → List Float
integer_outputs f m s x w y = outputs (λ b o. integer_dot_at f m (reading_row x s b) w s.in_feat o) s y
