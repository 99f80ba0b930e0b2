-- A row's activation blocks, as they are kept. Only the contracts of the loops cite this. Definitions only.
use Rattle.std.specs.Prelude.{ℕ, ◌*◌, ◌≤◌, ◌<◌, ◌≡◌, List, [], get_or, length, Float}
use Rattle.std.specs.Float.{nan}
use Rattle.memory.specs.Lists.{part}
use Rattle.layouts.specs.Weights.{block}
use Rattle.layouts.specs.declared.format.Format.TheVariants.{OfK}
use Rattle.layouts.specs.declared.format.FormatK.{FormatK}
use Rattle.dots_activation.specs.declared.block.Q8Block.{Q8Block}
use Rattle.dots_activation.specs.Blocks.{block_of, SmallSums}
use Rattle.dots_integer.specs.Dots.{block_dot}
use Rattle.dots_kept_row.specs.declared.kept.KeptBlock.{KeptBlock}

-- what is kept of a block: all but its count
abbrev pub kept_of : Q8Block → KeptBlock
kept_of b = record { d = b.d; qs = b.qs; bsums = b.bsums }

-- no block, where there is none
abbrev pub none_kept : KeptBlock
none_kept = record { d = nan; qs = []; bsums = [] }

-- the block kept at t
abbrev pub kept_at : List KeptBlock → ℕ → KeptBlock
kept_at kept t = get_or kept t none_kept

-- 256 quants and eight sums, which are small
pub record WholeBlock (b : KeptBlock) : Type 0 where
  pub quants : length b.qs ≡ 256
  pub eight : length b.bsums ≡ 8
  pub small : SmallSums b.bsums

-- n whole blocks are kept there
pub record KeptRow (n : ℕ) (kept : List KeptBlock) : Type 0 where
  pub room : n ≤ length kept
  pub at : (t : ℕ) → t < n → WholeBlock (kept_at kept t)

-- the blocks of n times 256 readings are kept there
pub record Keeps (x : List Float) (n : ℕ) (kept : List KeptBlock) : Type 0 where
  pub at : (t : ℕ) → t < n → kept_at kept t ≡ kept_of (block_of (part x (256 * t) 256))

-- the dot of block t of a row of weights and the block kept at t
abbrev pub kept_dot : FormatK → List ℕ → List KeptBlock → ℕ → Float
kept_dot f w kept t =
    let b = kept_at kept t in
    block_dot f (block (OfK f) w t) b.d b.qs b.bsums 256
