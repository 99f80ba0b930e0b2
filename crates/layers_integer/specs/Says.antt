-- What the integer layers say, and what their memory holds then. Definitions only.
use Prim.{Unit}
use Rattle.std.specs.Prelude.{ℕ, List, length, Float}
use Rattle.refusals.specs.Said.{Said}
use Rattle.refusals.specs.Refusals.{carried_out}
use Rattle.layouts.specs.declared.format.FormatK.{FormatK}
use Rattle.layers_shape.specs.declared.Shape.{Shape}
use Rattle.layers_shape.specs.Shapes.{layer_refusal}
use Rattle.dots_kept_row.specs.declared.meeting.Meeting.{Meeting}
use Rattle.layers_integer_row.specs.Outputs.{integer_outputs}

-- `linear_q4_k_integer`, `linear_q5_k_integer`, `linear_q6_k_integer`, and the `_rs` layers: 6, 2, 3, 4, 5; and
-- otherwise every output
unfoldable pub integer_layer_says :
    FormatK → Meeting → Shape → List Float → List ℕ → List Float → Said (Unit {0}) × List Float
integer_layer_says f m s x w y =
    carried_out (layer_refusal f s (length x) (length w) (length y)) (integer_outputs f m s x w y) y
