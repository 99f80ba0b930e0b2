-- The value at a place, of a block and of a run of blocks. Definitions only.
use Rattle.std.specs.Prelude.{ℕ, ◌*◌, ◌/◌, ◌%◌, List, Float}
use Rattle.memory.specs.Lists.{part}
use Rattle.layouts.specs.Formats.{block_bytes, block_values}
use Rattle.layouts.specs.Of32.{value32}
use Rattle.layouts.specs.K.{value_k}
use Rattle.layouts.specs.declared.format.Format.{Format}
use Rattle.layouts.specs.declared.format.Format.TheVariants.{Of32, OfK}

-- the value at place i of a block
abbrev pub value_in : Format → List ℕ → ℕ → Float
value_in (Of32 f) bs i = value32 f bs i
value_in (OfK f) bs i = value_k f bs i

-- block b of a run of blocks
abbrev pub block : Format → List ℕ → ℕ → List ℕ
block f bs b = part bs (b * block_bytes f) (block_bytes f)

-- the value at place i of a run of blocks
unfoldable pub weight_at : Format → List ℕ → ℕ → Float
weight_at f bs i = value_in f (block f bs (i / block_values f)) (i % block_values f)

-- how many values the whole blocks of n bytes have
abbrev pub values_of : Format → ℕ → ℕ
values_of f n = n / block_bytes f * block_values f
