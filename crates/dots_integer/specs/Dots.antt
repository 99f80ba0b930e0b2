-- Document 01, "Readings to small integers", and document 02, P9: the dot of a packed block and an activation block.
-- Definitions only.
use Rattle.std.specs.Prelude.{ℕ, min, Bool, true, not, cond, List, ltb, ℤ, length, take, Float, Ok}
use Rattle.std.specs.Float.{binary32}
use Rattle.std.specs.Float.Ieee.{mul, sub, of_int}
use Rattle.refusals.specs.Said.{Said}
use Rattle.refusals.specs.Refusals.{given}
use Rattle.refusals.specs.declared.refusal.Refusal.TheVariants.{WrongSums, WrongCount}
use Rattle.layouts.specs.Formats.{bytes_k, has_minimums}
use Rattle.layouts.specs.Counts.{weights_short}
use Rattle.layouts.specs.K.{d_of, dmin_of}
use Rattle.layouts.specs.declared.format.FormatK.{FormatK}
use Rattle.dots_activation.specs.declared.block.Q8Block.{Q8Block}
use Rattle.dots_activation.specs.Blocks.{count_serves, sums_right}
use Rattle.dots_whole.specs.Sums.{whole_sum, minimum_sum}

-- (d*dx) times a whole-number sum
abbrev pub scaled_sum : Float → Float → ℤ → Float
scaled_sum d dx z = mul binary32 (mul binary32 d dx) (of_int binary32 z)

-- Formats with minimums: (d*dx)*A - (dmin*dx)*M. Formats without: (d*dx)*B.
abbrev pub scaled_dot : FormatK → List ℕ → Float → List ℤ → ℤ → Float
scaled_dot f w dx sums a = cond (has_minimums f)
    (sub binary32 (scaled_sum (d_of f w) dx a) (scaled_sum (dmin_of w) dx (minimum_sum w sums)))
    (scaled_sum (d_of f w) dx a)

-- the dot of a packed block and an activation block of scale dx, where A and B count only places below n
unfoldable pub block_dot : FormatK → List ℕ → Float → List ℤ → List ℤ → ℕ → Float
block_dot f w dx qs sums n = scaled_dot f w dx sums (whole_sum f w qs n)

-- the same of an activation block as it is handed over
abbrev pub dot_with : FormatK → List ℕ → Q8Block → ℕ → Float
dot_with f w b n = block_dot f w b.d b.qs b.bsums n

-- a format with minimums uses the sums, which then have to be the sums of their 32s
abbrev pub sums_serve : FormatK → List ℤ → List ℤ → Bool
sums_serve f qs sums = cond (has_minimums f) (sums_right qs sums) true

-- `dot_q4k_q8_block`, `dot_q5k_q8_block`, `dot_q6k_q8_block`: fewer weights than needed; a block that isn't of n
-- readings, or has a quant past them; sums that aren't the sums of their 32s; and otherwise its formula, also at n = 0.
-- A block dot needs one whole block and takes n above 256 as 256; surplus weights are ignored.
unfoldable pub block_dot_says : FormatK → List ℕ → Q8Block → ℕ → Said Float
block_dot_says f w b n =
    given (weights_short f (length w) 1) (ltb (length w) (bytes_k f))
    (given WrongCount (not (count_serves b.qs b.count n))
    (given WrongSums (not (sums_serve f b.qs b.bsums))
    (Ok (dot_with f (take (bytes_k f) w) b (min n 256)))))
