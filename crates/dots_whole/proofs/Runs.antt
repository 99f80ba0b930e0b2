-- The whole-number sum by stretches, sub-blocks or runs: a scale times the sum of its stretch's products is the sum of what its places weigh. Assumes nothing.
use mathlib.Core.Path.{◌≡◌, sym, ap, ◌∙◌}
use mathlib.Core.List.{List}
use Prim.Native.Nat.{ℕ, ◌+◌, ◌*◌, ◌/◌, ◌≤◌, ◌<◌}
use native.Mathlib.Nat.{mul_comm}
use lib.Arith.{digits_div}
use lib.IntN.{ℤ, pos, ◌*ℤ◌, *ℤ-zero}
use lib.ListN.{get_or}
use Rattle.layouts.specs.Formats.{has_minimums, run_length}
use Rattle.layouts.specs.K.{scale_in, scale_k}
use Rattle.layouts.specs.declared.format.FormatK.{FormatK}
use Rattle.layouts.proofs.Minimums.{same_scale}
use Rattle.dots_activation.specs.Whole.{elem, sum_ℤ}
use Rattle.dots_activation.proofs.Ranges.{sum_same, sum_scale, sum_runs, sum_cut}
use Rattle.dots_whole.specs.Sums.{weighed_at}

-- the quant at place i of bytes q
abbrev pub byte_of : List ℕ → ℕ → ℤ
byte_of q i = pos (get_or q i 0)

module _ (f : FormatK) (w : List ℕ) (q : ℕ → ℤ) (x : List ℤ) where
  -- what stretch j of R places weighs
  abbrev pub stretch_weighs : ℕ → ℕ → ℤ
  stretch_weighs R j = sum_ℤ (λ (l : ℕ). weighed_at f w q x (R * j + l)) R

  -- a stretch with one scale, c
  pub stretch_is : (R j : ℕ) (c : ℤ) → R ≡ run_length f → c ≡ scale_in f w j → c *ℤ sum_ℤ (λ (l : ℕ). q (R * j + l) *ℤ elem x (R * j + l)) R ≡ stretch_weighs R j
  stretch_is R j c r e =
      sum_scale c p R ∙ sum_same (λ l. c *ℤ p l) (λ l. weighed_at f w q x (R * j + l)) R (λ l h. ap (λ (z : ℤ). z *ℤ p l) (e ∙ ap (scale_in f w) (same l h)))
    where
      p : ℕ → ℤ
      p l = q (R * j + l) *ℤ elem x (R * j + l)

      same : (l : ℕ) → l < R → j ≡ (R * j + l) / run_length f
      same l h = sym (rw (← r, mul_comm R j) (digits_div j h))

  -- k stretches of R are all the places below R * k
  pub stretches_are : (R k : ℕ) → sum_ℤ (stretch_weighs R) k ≡ sum_ℤ (weighed_at f w q x) (R * k)
  stretches_are R k = sum_runs (weighed_at f w q x) R k

  -- other quants that are the same, in a format that has minimums where f has
  pub laid_out : (g : FormatK) (v : ℕ → ℤ) → has_minimums g ≡ has_minimums f → ((i : ℕ) → i < 256 → q i ≡ v i) → sum_ℤ (weighed_at f w q x) 256 ≡ sum_ℤ (weighed_at g w v x) 256
  laid_out g v m e =
      sum_same (weighed_at f w q x) (weighed_at g w v x) 256 (λ i h. ap (λ (z : ℤ). scale_k f w i *ℤ (z *ℤ elem x i)) (e i h) ∙ ap (λ (z : ℤ). z *ℤ (v i *ℤ elem x i)) (same_scale f g w i m))

  -- what an activation quant z weighs at place i
  abbrev weighs : ℕ → ℤ → ℤ
  weighs i z = scale_k f w i *ℤ (q i *ℤ z)

  -- activation quants that are 0 from n on: the sum stops there
  pub sum_below : (n : ℕ) → n ≤ 256 → ((i : ℕ) → n ≤ i → i < 256 → elem x i ≡ pos 0) → sum_ℤ (weighed_at f w q x) 256 ≡ sum_ℤ (weighed_at f w q x) n
  sum_below n h z = sum_cut (weighed_at f w q x) n 256 h (λ i b p. ap (weighs i) (z i b p) ∙ ap (λ (y : ℤ). scale_k f w i *ℤ y) (*ℤ-zero (q i)) ∙ *ℤ-zero (scale_k f w i))
