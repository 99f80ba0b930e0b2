-- Document 01's bench card as one table: what each row asks, what the card says, and what the definitions that the
-- contracts cite answer. Definitions only.
use Rattle.std.specs.Prelude.{ℕ, ◌-◌, Bool, false, cond, List, [], ◌∷◌, map, eqb, ℤ, pos, length, get_or, replicate, Float, Ok, Err}
use Rattle.std.specs.Float.{binary32}
use Rattle.std.specs.Float.Ieee.{of_bits, to_bits, of_int}
use Rattle.refusals.specs.Said.{Said}
use Rattle.memory.specs.Lists.{table, every}
use Rattle.halves.specs.Binary16.{widened, narrowed}
use Rattle.numbers.specs.Fields.{byte_of}
use Rattle.numbers.specs.Steps.{nought}
use Rattle.readings.specs.Readings.{inverse, quant_q8}
use Rattle.quantizers.specs.Says.{quantize_says}
use Rattle.quantizers.specs.declared.target.Target.TheVariants.{Q40}
use Rattle.sums.specs.Says.{sum_says}
use Rattle.dots_activation.specs.Whole.{elem}
use Rattle.dots_activation.specs.Blocks.{block_in, block_says}
use Rattle.dots_activation.specs.declared.block.Q8Block.{Q8Block}

-- What a row asks. A float is given by its bits, as the card writes it.
pub data Asked : Type 0 where
  -- what these f16s are
  widen : List ℕ → Asked
  -- what these f32s encode as
  encode : List ℕ → Asked
  -- Q4_0 of these readings
  packed : List ℕ → Asked
  -- the sum of these
  sum : List ℕ → Asked
  -- what this integer becomes
  becomes : ℤ → Asked
  -- the inverse of these readings' scale, and their quants
  quants : List ℕ → Asked
  -- the quant that this scaled reading gives
  gives : ℕ → Asked

-- a row: what is asked, and what the card says
pub record Row : Type 0 where
  pub asks : Asked
  pub says : List ℕ

-- the floats of these bits
abbrev pub floats : List ℕ → List Float
floats bs = map (of_bits binary32) bs

-- the bits of the value that a sum answers; a refusal has none
abbrev pub value_bits : Said Float → List ℕ
value_bits (Ok v) = to_bits binary32 v ∷ []
value_bits (Err why) = []

-- what stands in the output of a call that is done; a refusal writes nothing
abbrev pub written_by : {A : Type 0} → Said A × List ℕ → List ℕ
written_by (Ok said, out) = out
written_by (Err why, out) = []

-- of an activation block of n readings: the inverse of its scale, and their quants
abbrev pub first_quants : ℕ → Q8Block → List ℕ
first_quants n block = to_bits binary32 (inverse block.d) ∷ table (λ i. byte_of (elem block.qs i)) n

-- of the block that is made of n readings: the same; a refusal leaves one of zeros
abbrev pub quants_by : ℕ → Said Q8Block → List ℕ
quants_by n (Ok block) = first_quants n block
quants_by n (Err why) = first_quants n (block_in nought (replicate 256 (pos 0)) (replicate 8 (pos 0)) 0)

-- what the definitions answer
unfoldable pub answer : Asked → List ℕ
answer (widen hs) = map (λ h. to_bits binary32 (widened h)) hs
answer (encode bs) = map narrowed bs
answer (packed bs) = written_by (quantize_says Q40 (floats bs) (replicate 18 0))
answer (sum bs) = value_bits (sum_says (floats bs) (length bs))
answer (becomes n) = to_bits binary32 (of_int binary32 n) ∷ []
answer (quants bs) = quants_by (length bs) (block_says (floats bs))
answer (gives b) = byte_of (quant_q8 (of_bits binary32 b)) ∷ []

-- a row of the card
abbrev pub row : Asked → List ℕ → Row
row a s = record { asks = a; says = s }

-- the twelve rows, in the card's order
unfoldable pub card : List Row
card =
    row (widen (0x3C00 ∷ [])) (0x3F800000 ∷ [])
    ∷ row (widen (0x0001 ∷ [])) (0x33800000 ∷ [])
    ∷ row (widen (0x03FF ∷ [])) (0x387FC000 ∷ [])
    ∷ row (encode (0x387FFFFF ∷ 0x38800000 ∷ [])) (0x0000 ∷ 0x0400 ∷ [])
    ∷ row (encode (0x3F801FFF ∷ [])) (0x3C00 ∷ [])
    ∷ row (encode (0x477FFFFF ∷ 0x47800000 ∷ 0xFFC00000 ∷ [])) (0x7BFF ∷ 0x7C00 ∷ 0xFC00 ∷ [])
    -- 32 zeros: 00 80, then sixteen 88
    ∷ row (packed (replicate 32 0)) (0x00 ∷ 0x80 ∷ replicate 16 0x88)
    -- 8.0 and 31 zeros: 00 BC 80, then fifteen 88
    ∷ row (packed (0x41000000 ∷ replicate 31 0)) (0x00 ∷ 0xBC ∷ 0x80 ∷ replicate 15 0x88)
    -- 16777216, 1, 1: 16777216
    ∷ row (sum (0x4B800000 ∷ 0x3F800000 ∷ 0x3F800000 ∷ [])) (0x4B800000 ∷ [])
    -- 16777220.0
    ∷ row (becomes (pos 16777219)) (0x4B800002 ∷ [])
    -- 2^-126, 2^-140, 0: the inverse is infinite, quants 127, 127, 0
    ∷ row (quants (0x00800000 ∷ 0x00000200 ∷ 0x00000000 ∷ [])) (0x7F800000 ∷ 127 ∷ 127 ∷ 0 ∷ [])
    -- just under 0.5
    ∷ row (gives 0x3EFFFFFF) (1 ∷ [])
    ∷ []

-- row n of the card, counted from 1; behind the last stands one that asks nothing
unfoldable pub row_at : ℕ → Row
row_at n = get_or card (n - 1) (row (widen []) [])

-- two lists have the same numbers
unfoldable pub same_numbers : List ℕ → List ℕ → Bool
same_numbers xs ys = cond (eqb (length xs) (length ys)) (every (λ i. eqb (get_or xs i 0) (get_or ys i 0)) (length ys)) false

-- the definitions answer a row with what it says
unfoldable pub answered : Row → Bool
answered r = same_numbers (answer r.asks) r.says
