-- How large a block is, and where it lies in a run of blocks. Assumes nothing.
use mathlib.Core.Path.{◌≡◌}
use Prim.Native.Nat.{ℕ, ◌+◌, ◌-◌, ◌*◌, ◌/◌, ◌^◌, ◌≤◌, ◌<◌}
use native.Mathlib.Omega.{arith}
use mathlib.Core.List.{List}
use lib.Arith.{digits_div, digits_mod}
use lib.Dec.{lit≤}
use lib.ListN.{take, drop}
use Rattle.layouts.specs.Formats.{bytes32, bytes_k, block_bytes, block_values}
use Rattle.layouts.specs.Weights.{value_in, weight_at}
use Rattle.layouts.specs.declared.format.Format32.{Format32}
use Rattle.layouts.specs.declared.format.Format32.TheVariants.{Q40, Q40Ggml, Q50, Q80, Iq4Nl}
use Rattle.layouts.specs.declared.format.FormatK.{FormatK}
use Rattle.layouts.specs.declared.format.FormatK.TheVariants.{Q4K, Q5K, Q6K}
use Rattle.layouts.specs.declared.format.Format.{Format}
use Rattle.layouts.specs.declared.format.Format.TheVariants.{Of32, OfK}

pub least_32 : (f : Format32) → (18 ≤ bytes32 f) × (bytes32 f ≤ 34)
least_32 Q40 = (lit≤ tt, lit≤ tt)
least_32 Q40Ggml = (lit≤ tt, lit≤ tt)
least_32 Q50 = (lit≤ tt, lit≤ tt)
least_32 Q80 = (lit≤ tt, lit≤ tt)
least_32 Iq4Nl = (lit≤ tt, lit≤ tt)

pub sizes : (f : Format) → (18 ≤ block_bytes f) × (block_bytes f ≤ 210) × (32 ≤ block_values f) × (block_values f ≤ 256)
sizes (Of32 f) = let h = least_32 f in (h.0, omega arith, lit≤ tt, lit≤ tt)
sizes (OfK Q4K) = (lit≤ tt, lit≤ tt, lit≤ tt, lit≤ tt)
sizes (OfK Q5K) = (lit≤ tt, lit≤ tt, lit≤ tt, lit≤ tt)
sizes (OfK Q6K) = (lit≤ tt, lit≤ tt, lit≤ tt, lit≤ tt)

-- what the whole blocks of any slice of bytes have fits
pub values_fit : (f : FormatK) (size n : ℕ) → size ≡ bytes_k f → n < 2 ^ 63 → n / size * 256 < 2 ^ 64
values_fit Q4K size n e h = rw e (omega arith)
values_fit Q5K size n e h = rw e (omega arith)
values_fit Q6K size n e h = rw e (omega arith)

-- block b's value at place l is the run's at place b * v + l
pub placed : (f : Format) (bs : List ℕ) (b l size v : ℕ) → size ≡ block_bytes f → v ≡ block_values f → l < v
    → value_in f (take (b * size + size - b * size) (drop (b * size) bs)) l ≡ weight_at f bs (b * v + l)
unfolding weight_at
placed f bs b l size v S W h =
    let d : b * size + size - b * size ≡ size = omega arith in
    rw (d, ← W, ← S, digits_div b h, digits_mod b h)
