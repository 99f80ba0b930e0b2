-- What the `_cpu` layers say, and what their memory holds then: `linear_q4_k_cpu`, `linear_q6_k_cpu`,
-- `linear_q4_0_cpu`. Definitions only.
use Prim.{Unit}
use Rattle.std.specs.Prelude.{ℕ, ◌+◌, ◌-◌, ◌*◌, cond, List, eqb, length, Float}
use Rattle.refusals.specs.Said.{Said}
use Rattle.refusals.specs.Refusals.{carried_out}
use Rattle.memory.specs.Lists.{table, filled}
use Rattle.layouts.specs.Weights.{weight_at}
use Rattle.layouts.specs.declared.format.Format.{Format}
use Rattle.sums_lanes.specs.Lanes.{products}
use Rattle.sums.specs.Rows.{row_sum}
use Rattle.layers_shape.specs.declared.Shape.{Shape}
use Rattle.layers_shape.specs.Shapes.{reading_row, outputs}
use Rattle.layers_cpu_checks.specs.Refusals.{cpu_refusal}

-- weight i of row o, of rows of n values that may share a block
abbrev pub row_weight : Format → List ℕ → ℕ → ℕ → ℕ → Float
row_weight f w n o i = weight_at f w (o * n + i)

-- the fixed-order dot of a row of n readings and row o of the weights, decoded
abbrev pub decoded_dot_at : Format → List Float → List ℕ → ℕ → ℕ → Float
decoded_dot_at f x w n o = row_sum (products x (table (row_weight f w n o) n)) n

-- scratch afterwards holds the last row decoded, or is untouched if batch or out_feat is 0
unfoldable pub scratch_after : Format → Shape → List ℕ → List Float → List Float
scratch_after f s w scratch =
    cond (eqb (s.batch * s.out_feat) 0) scratch
    (filled (row_weight f w s.in_feat (s.out_feat - 1)) scratch s.in_feat)

-- every output is the dot of its rows, beside what scratch holds
unfoldable pub cpu_says : Format → Shape → List Float → List ℕ → List Float → List Float
    → Said (Unit {0}) × (List Float × List Float)
cpu_says f s x w y scratch =
    carried_out (cpu_refusal f s (length x) (length w) (length y) (length scratch))
    (outputs (λ b o. decoded_dot_at f (reading_row x s b) w s.in_feat o) s y, scratch_after f s w scratch)
    (y, scratch)
