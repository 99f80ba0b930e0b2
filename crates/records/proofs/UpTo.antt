-- Numbers from 1 to a most. Assumes nothing.
use Prim.Native.Nat.{ℕ, ◌≤◌}
use mathlib.Core.Path.{◌≡◌}
use mathlib.Core.Bool.{true}
use borrow.Author.Tests.{leb-true}
use Rattle.records.specs.Kinds.{up_to}
use Rattle.frames.proofs.Whole.{both}

pub up_to_lem : (most n : ℕ) → up_to most n ≡ true → (1 ≤ n) × (n ≤ most)
unfolding up_to
up_to_lem most n e = let h = both _ _ e in (leb-true _ _ h.0, leb-true _ _ h.1)
