-- What `canonical_chunk` says, refusals and all, in document 01's order. Definitions only.
use Rattle.std.specs.Prelude.{List, ltb, length, Float, Ok}
use Rattle.refusals.specs.Said.{Said, uncounted}
use Rattle.refusals.specs.Refusals.{given}
use Rattle.refusals.specs.Sizes.{most_floats}
use Rattle.refusals.specs.declared.refusal.Refusal.TheVariants.{TooLarge}
use Rattle.sums_lanes.specs.Lanes.{products, chunk_sum}

-- `canonical_chunk`: over a size; fewer weights than needed; and otherwise the sum of one chunk, all of x
unfoldable pub chunk_says : List Float → List Float → Said Float
chunk_says x w =
    given TooLarge (ltb most_floats (length x))
    (given uncounted (ltb (length w) (length x))
    (Ok (chunk_sum (products x w) (length x))))
