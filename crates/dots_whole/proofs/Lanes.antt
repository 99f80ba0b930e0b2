-- The whole-number sum by lanes: how large a lane is, that eight lanes are what the pairs weigh, and these what all places weigh. Assumes nothing.
use mathlib.Core.Path.{◌≡◌, refl, sym, ap, ◌∙◌}
use mathlib.Core.List.{List}
use Prim.Native.Nat.{ℕ, ◌+◌, ◌*◌, ◌≤◌, ◌<◌}
use native.Mathlib.Nat.{mul-le-mul_right}
use native.Mathlib.Omega.{arith}
use lib.IntN.{ℤ, pos, ◌+ℤ◌, ◌*ℤ◌}
use Rattle.memory.specs.Lists.{table}
use Rattle.memory.proofs.Filled.{get_or_table}
use Rattle.layouts.specs.K.{scale_q4k}
use Rattle.layouts.specs.declared.format.FormatK.TheVariants.{Q4K}
use Rattle.dots_activation.specs.Whole.{elem, sum_ℤ, Within}
use Rattle.dots_activation.specs.Inner.{pair_of, PairsWithin, sum_of_pairs}
use Rattle.dots_activation.proofs.Magnitudes.{within, pos_within, add_within, mul_within}
use Rattle.dots_activation.proofs.Ranges.{sum_within, sum_same, sum_scale, sum_halves, sum_swap}
use Rattle.dots_activation.proofs.Pairs.{pairs_sum}
use Rattle.dots_whole.specs.Inner.{product_at, pairs_weighed, lane_term, lane_at}
use Rattle.dots_whole.specs.Sums.{weighed_at}
use Rattle.dots_whole.proofs.Runs.{byte_of, stretch_weighs, stretch_is, stretches_are}

module _ (w : List ℕ) (p : List ℤ) where
  -- ---- lane l after j sub-blocks, whose scales have six bits

  term_within : PairsWithin 7936 p → (l j : ℕ) → l < 8 → j < 8 → scale_q4k w j < 64 → Within 999936 (lane_term w p l j)
  term_within n l j h k s = mul_within (pos_within {B = 63} (omega arith)) (add_within (n.near (16 * j + l) (omega arith)) (n.near (16 * j + (8 + l)) (omega arith)))

  pub lane_within : PairsWithin 7936 p → (l j : ℕ) → l < 8 → j ≤ 8 → ((k : ℕ) → k < j → scale_q4k w k < 64) → Within 7999488 (sum_ℤ (lane_term w p l) j)
  lane_within n l j h k s = within (sum_within (lane_term w p l) 999936 j (λ i r. term_within n l i h (omega arith) (s i r))) (mul-le-mul_right 999936 k)

  -- ---- all lanes

  -- what sub-block j brings to all of them
  of_sub_block : (j : ℕ) → sum_ℤ (λ l. lane_term w p l j) 8 ≡ pos (scale_q4k w j) *ℤ sum_of_pairs p j
  of_sub_block j =
      sym (sum_scale (pos (scale_q4k w j)) (λ l. elem p (16 * j + l) +ℤ elem p (16 * j + (8 + l))) 8) ∙ ap (λ (z : ℤ). pos (scale_q4k w j) *ℤ z) (sum_halves (λ l. elem p (16 * j + l)) 8)

  pub lanes_sum : (lanes : List ℤ) → lanes ≡ table (lane_at w p) 8 → sum_ℤ (elem lanes) 8 ≡ pairs_weighed w p
  lanes_sum lanes f =
      sum_same (elem lanes) (lane_at w p) 8 (λ l h. ap (λ (m : List ℤ). elem m l) f ∙ get_or_table (lane_at w p) 8 l (pos 0) h)
      ∙ sum_swap (lane_term w p) 8 8
      ∙ sum_same (λ j. sum_ℤ (λ l. lane_term w p l j) 8) (λ j. pos (scale_q4k w j) *ℤ sum_of_pairs p j) 8 (λ j h. of_sub_block j)

  -- ---- the pairs of a block's products are what all its places weigh

  pub pairs_weigh : (q : List ℕ) (x : List ℤ) → p ≡ table (pair_of (product_at q x)) 128 → pairs_weighed w p ≡ sum_ℤ (weighed_at Q4K w (byte_of q) x) 256
  pairs_weigh q x e =
      sum_same (λ j. pos (scale_q4k w j) *ℤ sum_of_pairs p j) (stretch_weighs Q4K w (byte_of q) x 32) 8 (λ j h. ap (λ (z : ℤ). pos (scale_q4k w j) *ℤ z) (pairs_sum (product_at q x) p j e h)
      ∙ stretch_is Q4K w (byte_of q) x 32 j (pos (scale_q4k w j)) refl refl)
      ∙ stretches_are Q4K w (byte_of q) x 32 8
