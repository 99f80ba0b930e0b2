-- IQ4_NL's sixteen values rise. Assumes nothing.
use mathlib.Core.Path.{◌≡◌, refl, sym, subst}
use mathlib.Core.Bool.{Bool, true, cond}
use Prim.Native.Nat.{ℕ, ◌<◌}
use native.Mathlib.Omega.{arith}
use lib.Dec.{T, ltb}
use lib.Signed.{◌<ℤ◌, lt_z, lt_z_yes}
use borrow.Author.Tests.{lt-ltb}
use Rattle.memory.specs.Lists.{every}
use Rattle.memory.proofs.Every.{every_at}
use Rattle.layouts.specs.Of32.{values_iq4_nl, value_iq4_nl}

-- where j is the later place, its value is the larger
abbrev later : ℕ → ℕ → Bool
later i j = cond (ltb i j) (lt_z (value_iq4_nl i) (value_iq4_nl j)) true

-- the test, over the whole table
table_rises : every (λ j. every (λ i. later i j) 16) 16 ≡ true
unfolding values_iq4_nl every
table_rises = refl

-- of any two places of the table the later has the larger value
pub rises : (i j : ℕ) → i < j → j < 16 → value_iq4_nl i <ℤ value_iq4_nl j
rises i j h k =
    let all : every (λ i. later i j) 16 ≡ true = every_at (λ j. every (λ i. later i j) 16) 16 j table_rises k in
    let e : later i j ≡ true = every_at (λ i. later i j) 16 i all (omega arith) in
    lt_z_yes (subst T (sym (rw (lt-ltb i j h) at e)) tt)
