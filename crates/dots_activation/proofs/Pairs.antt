-- The pairs of a sub-block are its 32 values. Assumes nothing.
use mathlib.Core.Path.{◌≡◌, ap, ◌∙◌}
use mathlib.Core.List.{List}
use Prim.Native.Nat.{ℕ, ◌+◌, ◌*◌, ◌/◌, ◌%◌, ◌<◌}
use native.Mathlib.Omega.{arith}
use lib.IntN.{ℤ, pos, ◌+ℤ◌}
use Rattle.memory.specs.Lists.{table}
use Rattle.memory.proofs.Filled.{get_or_table}
use Rattle.dots_activation.specs.Whole.{elem, sum_ℤ}
use Rattle.dots_activation.specs.Inner.{pair_of, sum_of_pairs}
use Rattle.dots_activation.proofs.Ranges.{sum_same, sum_halves}

pub pairs_sum : (f : ℕ → ℤ) (t : List ℤ) (j : ℕ) → t ≡ table (pair_of f) 128 → j < 8 → sum_of_pairs t j ≡ sum_ℤ (λ l. f (32 * j + l)) 32
pairs_sum f t j e h =
    sum_same (λ (l : ℕ). elem t (16 * j + l)) (λ (l : ℕ). f (32 * j + l) +ℤ f (32 * j + (16 + l))) 16
    (λ l p. ap (λ (m : List ℤ). elem m (16 * j + l)) e ∙ get_or_table (pair_of f) 128 (16 * j + l) (pos 0) (omega arith) ∙ here l p)
    ∙ sum_halves (λ l. f (32 * j + l)) 16
  where
    here : (l : ℕ) → l < 16 → pair_of f (16 * j + l) ≡ f (32 * j + l) +ℤ f (32 * j + (16 + l))
    here l p =
        let d : (16 * j + l) / 16 ≡ j = omega arith in
        let m : (16 * j + l) % 16 ≡ l = omega arith in
        rw (d, m)
