-- What the fused layers say, and what their memory holds then: `linear_q4_k_fused`, `linear_q5_k_fused`,
-- `linear_q6_k_fused`. Definitions only.
use Prim.{Unit}
use Rattle.std.specs.Prelude.{ℕ, List, length, Float}
use Rattle.refusals.specs.Said.{Said}
use Rattle.refusals.specs.Refusals.{carried_out}
use Rattle.layouts.specs.declared.format.FormatK.{FormatK}
use Rattle.sums.specs.Rows.{row_sum}
use Rattle.dots_fused_block.specs.Terms.{terms}
use Rattle.layers_shape.specs.declared.Shape.{Shape}
use Rattle.layers_shape.specs.Shapes.{layer_refusal, reading_row, weight_row, outputs}

-- the fused dot of a row of n readings and row o of the weights
abbrev pub fused_dot_at : FormatK → List Float → List ℕ → ℕ → ℕ → Float
fused_dot_at f x w n o = row_sum (terms f x (weight_row f w n o)) n

-- 6, 2, 3, 4, 5; and otherwise every output is the fused dot of its rows
unfoldable pub fused_layer_says : FormatK → Shape → List Float → List ℕ → List Float → Said (Unit {0}) × List Float
fused_layer_says f s x w y =
    carried_out (layer_refusal f s (length x) (length w) (length y))
    (outputs (λ b o. fused_dot_at f (reading_row x s b) w s.in_feat o) s y) y
