-- The search finds the nearest value: a test at each of a signed byte's 256 patterns, which antt computes. Assumes nothing.
use mathlib.Core.Path.{◌≡◌, refl}
use mathlib.Core.Bool.{Bool, true, false, cond, false≢true}
use Prim.Native.Nat.{ℕ, ◌<◌}
use native.Mathlib.Omega.{arith}
use lib.Dec.{eqb, ltb}
use mir.Syntax.{w8}
use mir.Val.{to_z}
use borrow.Author.Tests.{eqb-true, ltb-true}
use Rattle.memory.specs.Lists.{every}
use Rattle.memory.proofs.Every.{every_at}
use Rattle.layouts.specs.Of32.{values_iq4_nl}
use Rattle.nearest.specs.Nearest.{none_nearer, first_nearest, nearest}
use Rattle.nearest.specs.Inner.{next_is_nearer, nearer_next}

-- the nibble that the search counts for the pattern b is the nearest, and a nibble
abbrev found : ℕ → Bool
found b = let n = nearer_next (to_z w8 b) 15 in cond (eqb n (nearest (to_z w8 b))) (ltb n 16) false

all_found : every found 256 ≡ true
unfolding every nearer_next next_is_nearer first_nearest none_nearer values_iq4_nl
all_found = refl

both : (n m : ℕ) → cond (eqb n m) (ltb n 16) false ≡ true → (n ≡ m) × (m < 16)
both n m e = by (eqb n m) refl e
  where
    by : (t : Bool) → eqb n m ≡ t → cond t (ltb n 16) false ≡ true → (n ≡ m) × (m < 16)
    by true g l = let same = eqb-true n m g in (same, omega (arith, ltb-true n 16 l))
    by false g l = absurd (false≢true l)

pub searched : (b : ℕ) → b < 256 → (nearer_next (to_z w8 b) 15 ≡ nearest (to_z w8 b)) × (nearest (to_z w8 b) < 16)
searched b h = both _ _ (every_at found 256 b all_found h)
