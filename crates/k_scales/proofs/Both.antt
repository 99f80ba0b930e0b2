-- Scales first, and the minimums behind them: what stands at each place. Assumes nothing.
use mathlib.Core.Path.{◌≡◌, ◌∙◌}
use Prim.Native.Nat.{ℕ, ◌+◌, ◌-◌, ◌<◌}
use native.Mathlib.Omega.{arith}
use mathlib.Core.List.{List}
use borrow.Author.Tests.{lt-ltb, le-ltb}
use lib.ListN.{get_or}
use lib.Ieee.{Float, nan}
use Rattle.memory.specs.Lists.{table}
use Rattle.memory.proofs.Filled.{get_or_table}
use Rattle.layouts.specs.K.{d_scale, dmin_minimum}
use Rattle.layouts.specs.declared.format.FormatK.TheVariants.{Q4K}
use Rattle.k_scales.specs.Both.{scale_then_minimum}

module _ (bs : List ℕ) (j : ℕ) (h : j < 8) where
  pub scale_first : scale_then_minimum bs j ≡ d_scale Q4K bs j
  unfolding scale_then_minimum
  scale_first = rw (lt-ltb j 8 h)

  pub minimum_behind : scale_then_minimum bs (j + 8) ≡ dmin_minimum bs j
  unfolding scale_then_minimum
  minimum_behind =
      let back : j + 8 - 8 ≡ j = omega arith in
      rw (le-ltb (j + 8) 8 (omega arith), back)

  -- as they are read from the list that holds them
  module _ (s : List Float) (e : s ≡ table (scale_then_minimum bs) 16) where
    pub scale_at : get_or s j nan ≡ d_scale Q4K bs j
    scale_at = rw e (get_or_table (scale_then_minimum bs) 16 j nan (omega arith) ∙ scale_first)

    pub minimum_at : get_or s (j + 8) nan ≡ dmin_minimum bs j
    minimum_at = rw e (get_or_table (scale_then_minimum bs) 16 (j + 8) nan (omega arith) ∙ minimum_behind)
