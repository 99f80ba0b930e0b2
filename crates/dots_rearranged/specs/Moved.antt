-- The quants of packed blocks, of an activation block and of a row of readings, moved inside their runs: the places of
-- one scale, which are the 32 of a sub-block of Q4_K or Q5_K, or the 16 of a run of Q6_K. Definitions only.
use Rattle.std.specs.Prelude.{ℕ, zero, suc, ◌+◌, ◌-◌, ◌*◌, ◌/◌, ◌%◌, ◌^◌, cond, List, ltb, length, get_or, Float}
use Rattle.std.specs.Float.{nan}
use Rattle.memory.specs.Lists.{table}
use Rattle.layouts.specs.Formats.{bytes_k, run_length}
use Rattle.layouts.specs.Of32.{nibble}
use Rattle.layouts.specs.K.{nibble_paired}
use Rattle.layouts.specs.Weights.{block}
use Rattle.layouts.specs.declared.format.Format.TheVariants.{OfK}
use Rattle.layouts.specs.declared.format.FormatK.{FormatK}
use Rattle.layouts.specs.declared.format.FormatK.TheVariants.{Q4K, Q5K, Q6K}
use Rattle.dots_activation.specs.declared.block.Q8Block.{Q8Block}
use Rattle.dots_activation.specs.Whole.{elem}
use Rattle.dots_activation.specs.Blocks.{block_in}
use Rattle.dots_rearranged.specs.Orders.{Rearrangement, from}

-- how many places are rearranged among each other: those of one scale
abbrev pub run : FormatK → ℕ
run f = run_length f

-- a rearrangement for each run
abbrev pub Rearrangements : FormatK → (ℕ → List ℕ) → Type 0
Rearrangements f orders = (r : ℕ) → Rearrangement (run f) (orders r)

-- those of the runs of block b, of blocks whose runs are counted on from block to block
abbrev pub of_block : FormatK → (ℕ → List ℕ) → ℕ → ℕ → List ℕ
of_block f orders b r = orders (256 / run f * b + r)

-- ---- the parts of a quant: its nibble, and what stands above it

-- Q5_K: the fifth bit at place i
abbrev pub fifth_bit : List ℕ → ℕ → ℕ
fifth_bit bs i = get_or bs (16 + i % 32) 0 / 2 ^ (i / 32) % 2

-- Q6_K: the nibble at place i
abbrev pub low_bits : List ℕ → ℕ → ℕ
low_bits bs i = nibble (get_or bs (64 * (i / 128) + (32 * (i % 128 / 32 % 2) + i % 32)) 0) (i % 128 / 32 / 2)

-- Q6_K: the two bits above the nibble at place i
abbrev pub bit_pair : List ℕ → ℕ → ℕ
bit_pair bs i = get_or bs (128 + (32 * (i / 128) + i % 32)) 0 / 2 ^ (2 * (i % 128 / 32)) % 4

-- ---- a moved block, byte by byte: place i has what stood at `place i`

-- byte c of nibbles whose two places are D apart
abbrev pub two_nibbles : ℕ → (ℕ → ℕ) → ℕ → ℕ
two_nibbles D q c = q (2 * D * (c / D) + c % D) + 16 * q (2 * D * (c / D) + (D + c % D))

-- a byte of n fields, field t of which weighs base ^ t
abbrev pub fields : ℕ → (ℕ → ℕ) → ℕ → ℕ
fields base q zero = 0
fields base q (suc n) = q 0 + base * fields base (λ (t : ℕ). q (suc t)) n

-- Byte k of the block: the nibbles, the fifth bits of Q5_K and the bit pairs of Q6_K move, and every other byte stays.
unfoldable pub moved_byte : FormatK → (ℕ → ℕ) → List ℕ → ℕ → ℕ
moved_byte Q4K place bs k =
    cond (ltb k 16) (get_or bs k 0)
    (two_nibbles 32 (λ (i : ℕ). nibble_paired bs 16 (place i)) (k - 16))
moved_byte Q5K place bs k =
    cond (ltb k 16) (get_or bs k 0)
    (cond (ltb k 48) (fields 2 (λ (j : ℕ). fifth_bit bs (place (32 * j + (k - 16)))) 8)
    (two_nibbles 32 (λ (i : ℕ). nibble_paired bs 48 (place i)) (k - 48)))
moved_byte Q6K place bs k =
    cond (ltb k 128) (two_nibbles 64 (λ (i : ℕ). low_bits bs (place i)) k)
    (cond (ltb k 192)
    (fields 4 (λ (t : ℕ). bit_pair bs (place (128 * ((k - 128) / 32) + (32 * t + (k - 128) % 32)))) 4)
    (get_or bs k 0))

-- ---- weights, readings and an activation block, each as long as it was

-- byte k of blocks of which each is moved
abbrev pub moved_at : FormatK → (ℕ → List ℕ) → List ℕ → ℕ → ℕ
moved_at f orders w k =
    moved_byte f (from (run f) (of_block f orders (k / bytes_k f))) (block (OfK f) w (k / bytes_k f)) (k % bytes_k f)

-- the first m blocks of weights moved, and all behind them kept
unfoldable pub moved_weights : FormatK → (ℕ → List ℕ) → ℕ → List ℕ → List ℕ
moved_weights f orders m w =
    table (λ (k : ℕ). cond (ltb k (m * bytes_k f)) (moved_at f orders w k) (get_or w k 0)) (length w)

-- the readings of the first m blocks moved, and all behind them kept
unfoldable pub moved_readings : FormatK → (ℕ → List ℕ) → ℕ → List Float → List Float
moved_readings f orders m x =
    table (λ (i : ℕ). get_or x (cond (ltb i (256 * m)) (from (run f) orders i) i) nan) (length x)

-- an activation block's quants moved; its scale, its sums and its count stay
unfoldable pub moved_block : FormatK → (ℕ → List ℕ) → Q8Block → Q8Block
moved_block f orders b = block_in b.d (table (λ (i : ℕ). elem b.qs (from (run f) orders i)) 256) b.bsums b.count

-- rows of n places, whole blocks, of which each is moved as the first
abbrev pub every_row : FormatK → ℕ → (ℕ → List ℕ) → ℕ → List ℕ
every_row f n orders r = orders (r % (n / run f))
