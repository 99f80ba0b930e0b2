-- Whole numbers times a scale. Assumes nothing.
use mathlib.Core.Path.{◌≡◌}
use Prim.Native.Nat.{ℕ}
use mathlib.Core.List.{List}
use lib.IntN.{ℤ, pos}
use lib.ListN.{get_or}
use lib.Ieee.{Float, binary32, mul, of_int}
use Rattle.halves.specs.Binary16.{widened}
use Rattle.numbers.specs.Fields.{le16}
use Rattle.memory.specs.Lists.{table}
use Rattle.memory.proofs.Filled.{get_or_table, table_ext}
use Rattle.layouts.specs.Of32.{quant32, value32}
use Rattle.layouts.specs.declared.format.Format32.{Format32}

-- the scale s times the whole number z
abbrev pub times : Float → ℤ → Float
times s z = mul binary32 s (of_int binary32 z)

-- the value at place i by the scale and the whole numbers
abbrev pub at : Float → List ℤ → ℕ → Float
at s q i = times s (get_or q i (pos 0))

-- the values by whole numbers that are a block's
pub of_quants : (f : Format32) (bs : List ℕ) (s : Float) (q : List ℤ) → q ≡ table (quant32 f bs) 32 → table (at s q) 32 ≡ table (λ j. times s (quant32 f bs j)) 32
of_quants f bs s q e = table_ext (at s q) (λ j. times s (quant32 f bs j)) 32 (λ j h. rw (e, get_or_table (quant32 f bs) 32 j (pos 0) h))

-- .. and by a scale that is the block's
pub of_scale : (f : Format32) (bs : List ℕ) (s : Float) → s ≡ widened (le16 bs 0) → table (λ j. times s (quant32 f bs j)) 32 ≡ table (value32 f bs) 32
of_scale f bs s e = rw e
