-- Weights that are refused for being short have fewer whole blocks than are needed. Assumes nothing.
use Prim.Native.Nat.{ℕ, ◌*◌, ◌<◌}
use native.Mathlib.Omega.{arith}
use Rattle.refusals.specs.Said.{found_by}
use Rattle.memory.specs.Lists.{stretches_in}
use Rattle.layouts.specs.Formats.{bytes_k}
use Rattle.layouts.specs.Weights.{values_of}
use Rattle.layouts.specs.Counts.{weights_short}
use Rattle.layouts.specs.declared.format.FormatK.{FormatK}
use Rattle.layouts.specs.declared.format.FormatK.TheVariants.{Q4K, Q5K, Q6K}
use Rattle.layouts.specs.declared.format.Format.TheVariants.{OfK}

-- where there are fewer bytes than the blocks needed have
pub short_of_bytes : (f : FormatK) (bytes needed : ℕ) → bytes < needed * bytes_k f → found_by (weights_short f bytes needed) < needed
short_of_bytes Q4K bytes needed h = omega arith
short_of_bytes Q5K bytes needed h = omega arith
short_of_bytes Q6K bytes needed h = omega arith

-- where the whole blocks have fewer values than n
pub short_of_values : (f : FormatK) (bytes n : ℕ) → values_of (OfK f) bytes < n → found_by (weights_short f bytes (stretches_in 256 n)) < stretches_in 256 n
short_of_values Q4K bytes n h = omega arith
short_of_values Q5K bytes n h = omega arith
short_of_values Q6K bytes n h = omega arith
