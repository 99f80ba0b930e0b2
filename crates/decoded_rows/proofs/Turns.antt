-- A turn of a row that is decoded a block at a time: where the block of the next place lies, and how many of its places are taken. Assumes nothing.
use mathlib.Core.Path.{◌≡◌}
use Prim.Native.Nat.{ℕ, ◌+◌, ◌-◌, ◌*◌, ◌/◌, ◌%◌, ◌≤◌, ◌<◌, min}
use native.Mathlib.Nat.{div-lt_iff_lt-mul}
use native.Mathlib.Omega.{arith}
use Rattle.memory.proofs.Parts.{within_whole}
use Rattle.layouts.specs.Formats.{block_bytes, block_values}
use Rattle.layouts.specs.Weights.{values_of}
use Rattle.layouts.specs.declared.format.Format.{Format}
use Rattle.layouts.proofs.Sizes.{sizes}

-- the block lies within the weights
pub block_within : (f : Format) (size v place room : ℕ) → size ≡ block_bytes f → v ≡ block_values f → place < values_of f room → place / v * size + size ≤ room
block_within f size v place room S W h =
    let P : 0 < v = omega (arith, sizes f, W) in
    let k : place < room / size * v = rw (S, W) h in
    within_whole (place / v) size room ((div-lt_iff_lt-mul P).1 k)

-- the place lies within the block, and one place at least is taken, and no more than there are
pub some_taken : (f : Format) (v place at n r : ℕ) → v ≡ block_values f → at < n → r ≡ min (v - place % v) (n - at) → (place % v < v) × (0 < r) × (r ≤ v - place % v) × (at + r ≤ n)
some_taken f v place at n r W h R =
    let P : 0 < v = omega (arith, sizes f, W) in
    (omega arith, omega arith, omega arith, omega arith)
