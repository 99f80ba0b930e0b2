-- What a fused row dot says, refusals and all, in document 01's order. Definitions only.
use Rattle.std.specs.Prelude.{List, not, cond, ℕ, ◌%◌, ltb, eqb, length, Float, Ok}
use Rattle.refusals.specs.Said.{Said}
use Rattle.refusals.specs.Refusals.{given}
use Rattle.refusals.specs.Sizes.{most_in}
use Rattle.refusals.specs.declared.refusal.Refusal.TheVariants.{NotWholeBlocks, ReadingsShort, TooLarge}
use Rattle.memory.specs.Lists.{stretches_in}
use Rattle.numbers.specs.Steps.{nought}
use Rattle.layouts.specs.Formats.{bytes_k}
use Rattle.layouts.specs.Weights.{values_of}
use Rattle.layouts.specs.Counts.{weights_short}
use Rattle.layouts.specs.declared.format.FormatK.{FormatK}
use Rattle.layouts.specs.declared.format.Format.TheVariants.{OfK}
use Rattle.sums.specs.Rows.{row_sum}
use Rattle.dots_fused_block.specs.Terms.{terms}

-- `canonical_dot_q4k_fused`, `canonical_dot_q5k_fused`, `q6k_fused_f32_dot`: over a size; packed bytes that are not
-- whole blocks, also at n = 0; n = 0 answers +0.0; fewer weights than needed; fewer readings; and otherwise the row's
-- sum
unfoldable pub fused_says : FormatK → List Float → List ℕ → ℕ → Said Float
fused_says f x w n =
    given TooLarge (ltb most_in n)
    (given NotWholeBlocks (not (eqb (length w % bytes_k f) 0))
    (cond (eqb n 0) (Ok nought)
    (given (weights_short f (length w) (stretches_in 256 n)) (ltb (values_of (OfK f) (length w)) n)
    (given ReadingsShort (ltb (length x) n)
    (Ok (row_sum (terms f x w) n))))))
