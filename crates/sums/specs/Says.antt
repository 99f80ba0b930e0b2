-- What the calls say, refusals and all, in document 01's order. Definitions only.
use Rattle.std.specs.Prelude.{List, cond, ℕ, ltb, eqb, length, Float, Ok}
use Rattle.refusals.specs.Said.{Said, uncounted}
use Rattle.refusals.specs.Refusals.{given}
use Rattle.refusals.specs.Sizes.{most_in}
use Rattle.refusals.specs.declared.refusal.Refusal.TheVariants.{ReadingsShort, TooLarge}
use Rattle.numbers.specs.Steps.{nought}
use Rattle.sums_lanes.specs.Lanes.{products, values}
use Rattle.sums.specs.Rows.{row_sum}

-- `canonical_dot_pub`: over a size; n = 0 answers +0.0; fewer weights than needed; fewer readings; and otherwise the
-- row's sum
unfoldable pub dot_says : List Float → List Float → ℕ → Said Float
dot_says x w n =
    given TooLarge (ltb most_in n)
    (cond (eqb n 0) (Ok nought)
    (given uncounted (ltb (length w) n)
    (given ReadingsShort (ltb (length x) n)
    (Ok (row_sum (products x w) n)))))

-- `canonical_sum_pub`: the same, with no weights to be short of
unfoldable pub sum_says : List Float → ℕ → Said Float
sum_says x n =
    given TooLarge (ltb most_in n)
    (cond (eqb n 0) (Ok nought)
    (given ReadingsShort (ltb (length x) n)
    (Ok (row_sum (values x) n))))
