-- Document 01, "Readings to small integers", and document 02, P9: the activation block. Definitions only.
use Rattle.std.specs.Prelude.{ℕ, ◌+◌, ◌*◌, ◌<◌, min, Bool, true, false, cond, List, ltb, eqb, ℤ, pos, get_or, length, Float, Ok}
use Rattle.std.specs.Float.{nan, binary32}
use Rattle.std.specs.Float.Ieee.{mul}
use Rattle.refusals.specs.Said.{Said}
use Rattle.refusals.specs.Refusals.{given}
use Rattle.refusals.specs.declared.refusal.Refusal.TheVariants.{ReadingsShort}
use Rattle.memory.specs.Lists.{table, every}
use Rattle.readings.specs.Readings.{scale_q8, inverse, quant_q8}
use Rattle.dots_activation.specs.declared.block.Q8Block.{Q8Block}
use Rattle.dots_activation.specs.Whole.{elem, sum_ℤ, eq_z, Within}

-- each reading times the inverse, as a Q8 quant; quants past the readings are 0
abbrev pub quant_at : List Float → Float → ℕ → ℤ
quant_at xs inv i = cond (ltb i (length xs)) (quant_q8 (mul binary32 (get_or xs i nan) inv)) (pos 0)

-- 256 signed quants
abbrev pub quants_of : List Float → List ℤ
quants_of xs = table (quant_at xs (inverse (scale_q8 xs))) 256

-- the sum of the 32 quants of sub-block j
abbrev pub sum_of_32 : List ℤ → ℕ → ℤ
sum_of_32 qs j = sum_ℤ (λ (l : ℕ). elem qs (32 * j + l)) 32

-- eight sums of 32
abbrev pub sums_of : List ℤ → List ℤ
sums_of qs = table (sum_of_32 qs) 8

-- An activation block has one float scale, 256 signed quants, eight sums of 32 and the count of its readings: the
-- block of these four ..
abbrev pub block_in : Float → List ℤ → List ℤ → ℕ → Q8Block
block_in d qs bsums count = record { d = d; qs = qs; bsums = bsums; count = count }

-- .. of a scale, quants and a count ..
abbrev pub block_with : Float → List ℤ → ℕ → Q8Block
block_with d qs count = block_in d qs (sums_of qs) count

-- .. and of at most 256 readings.
unfoldable pub block_of : List Float → Q8Block
block_of xs = block_with (scale_q8 xs) (quants_of xs) (length xs)

-- `quantize_block_q8`: 4 for more than 256 readings; and otherwise the block
unfoldable pub block_says : List Float → Said Q8Block
block_says xs = given ReadingsShort (ltb 256 (length xs)) (Ok (block_of xs))

-- place i is below n, or its quant is 0
abbrev pub past_is_zero : List ℤ → ℕ → ℕ → Bool
past_is_zero qs n i = cond (ltb i n) true (eq_z (elem qs i) (pos 0))

-- every quant from n on is 0
abbrev pub zeros_past : List ℤ → ℕ → Bool
zeros_past qs n = every (past_is_zero qs n) 256

-- A block of `count` readings serves n places, n above 256 taken as 256, where n is that count and every quant past it
-- is 0. A count above 256 serves none.
unfoldable pub count_serves : List ℤ → ℕ → ℕ → Bool
count_serves qs count n = cond (eqb (min n 256) count) (zeros_past qs count) false

-- sum j is the sum of its 32 quants
abbrev pub right_at : List ℤ → List ℤ → ℕ → Bool
right_at qs sums j = eq_z (sum_of_32 qs j) (elem sums j)

-- a block's sums are the sums of its 32s
unfoldable pub sums_right : List ℤ → List ℤ → Bool
sums_right qs sums = every (right_at qs sums) 8

-- each of eight sums is at most 4,096 in size, as a sum of 32 signed bytes is
pub record SmallSums (sums : List ℤ) : Type 0 where
  pub near : (j : ℕ) → j < 8 → Within 4096 (elem sums j)
