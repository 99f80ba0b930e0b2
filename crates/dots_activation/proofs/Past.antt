-- The quants past a count. Assumes nothing.
use mathlib.Core.Path.{◌≡◌, refl, sym, ap, ◌∙◌}
use mathlib.Core.Bool.{Bool, true, false, cond, false≢true}
use mathlib.Core.List.{List}
use Prim.Native.Nat.{ℕ, ◌≤◌, ◌<◌, min}
use native.Mathlib.Decide.{dec_lt}
use native.Mathlib.Omega.{arith}
use borrow.Author.Tests.{lt-ltb, le-ltb, eq-eqb, ne_eqb, eqb-true}
use lib.Dec.{eqb}
use lib.IntN.{ℤ, pos}
use Rattle.memory.proofs.Every.{every_all, every_at}
use Rattle.dots_activation.specs.Whole.{elem, eq_z}
use Rattle.dots_activation.specs.Blocks.{past_is_zero, zeros_past, count_serves}
use Rattle.dots_activation.proofs.Tests.{eq_z_true}

module _ (qs : List ℤ) (n : ℕ) where
  -- a place below the count passes, ..
  pub below_passes : (i : ℕ) → i < n → past_is_zero qs n i ≡ true
  below_passes i h = ap (λ (t : Bool). cond t true (eq_z (elem qs i) (pos 0))) (lt-ltb i n h)

  -- .. and one past it where its quant is 0
  pub past_is : (i : ℕ) → n ≤ i → past_is_zero qs n i ≡ eq_z (elem qs i) (pos 0)
  past_is i h = ap (λ (t : Bool). cond t true (eq_z (elem qs i) (pos 0))) (le-ltb i n h)

  pub zero_past : zeros_past qs n ≡ true → (i : ℕ) → n ≤ i → i < 256 → elem qs i ≡ pos 0
  zero_past z i b h = eq_z_true _ _ (sym (past_is i b) ∙ every_at (past_is_zero qs n) 256 i z h)

  -- a count that serves k places: k of them at most 256, and zeros past them
  pub serves_are : (k : ℕ) → count_serves qs n k ≡ true → (min k 256 ≡ n) × (zeros_past qs n ≡ true)
  unfolding count_serves
  serves_are k = by (eqb (min k 256) n) (eqb-true (min k 256) n)
    where
      by : (t : Bool) → (t ≡ true → min k 256 ≡ n) → cond t (zeros_past qs n) false ≡ true → (min k 256 ≡ n) × (zeros_past qs n ≡ true)
      by true e h = (e refl, h)
      by false e h = absurd (false≢true h)

  -- the other way round
  pub serves : n ≤ 256 → ((i : ℕ) → n ≤ i → i < 256 → elem qs i ≡ pos 0) → count_serves qs n n ≡ true
  unfolding count_serves
  serves h z =
      let held : min n 256 ≡ n = omega arith in
      rw (eq-eqb (min n 256) n held) (every_all (past_is_zero qs n) 256 (λ i u. each i u (dec_lt i n)))
    where
      each : (i : ℕ) → i < 256 → Dec (i < n) → past_is_zero qs n i ≡ true
      each i u (yes p) = below_passes i p
      each i u (no p) = let b : n ≤ i = omega arith in past_is i b ∙ ap (λ (y : ℤ). eq_z y (pos 0)) (z i b u)

  -- a count above 256 serves no places
  pub above_serves_none : 256 < n → (k : ℕ) → count_serves qs n k ≡ false
  unfolding count_serves
  above_serves_none h k = ap (λ (t : Bool). cond t (zeros_past qs n) false) (ne_eqb (min k 256) n (λ e. omega arith))
