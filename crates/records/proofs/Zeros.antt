-- Values with all bits zero. Assumes nothing.
use Prim.Native.Nat.{ℕ, ◌+◌, ◌*◌}
use native.Mathlib.Numerals.{add-one}
use mathlib.Core.Path.{◌≡◌}
use mathlib.Core.Bool.{true, or-true, or-false}
use mathlib.Core.List.{List}
use borrow.Author.Tests.{eq-eqb, ne_eqb}
use Rattle.numbers.specs.Fields.{le32}
use Rattle.records.specs.Kinds.{has_zero}

module _ (p : List ℕ) (k : ℕ) where
  -- one more value, which is one of them
  pub zero_found : le32 p (k * 4) ≡ 0 → has_zero p (k + 1) ≡ true
  unfolding has_zero
  zero_found z = rw (add-one, eq-eqb _ _ z) (or-true (has_zero p k))

  -- one more value, which is none of them
  pub zero_keeps : (le32 p (k * 4) ≡ 0 → ⊥) → has_zero p (k + 1) ≡ has_zero p k
  unfolding has_zero
  zero_keeps other = rw (add-one, ne_eqb _ _ other) (or-false (has_zero p k))
