-- The block dots of a moved block and a moved activation block. Assumes nothing.
use mathlib.Core.Path.{◌≡◌, refl, sym, ap, ◌∙◌}
use mathlib.Core.Bool.{Bool, true, false, cond}
use mathlib.Core.List.{List}
use Prim.Native.Nat.{ℕ, zero, suc, ◌+◌, ◌*◌, ◌/◌, ◌<◌}
use native.Mathlib.Omega.{arith}
use lib.IntN.{ℤ, pos, ◌*ℤ◌}
use lib.Ieee.{Float, binary32, sub}
use Rattle.memory.specs.Lists.{every}
use Rattle.layouts.specs.Formats.{has_minimums, run_length}
use Rattle.layouts.specs.K.{quant_k, scale_in, scale_k, d_of, dmin_of}
use Rattle.layouts.specs.declared.format.FormatK.{FormatK}
use Rattle.dots_activation.specs.Whole.{elem, eq_z}
use Rattle.dots_activation.specs.Blocks.{sum_of_32, right_at, sums_right}
use Rattle.dots_activation.proofs.Ranges.{sum_same}
use Rattle.dots_whole.specs.Sums.{weighed_at, whole_sum, minimum_sum}
use Rattle.dots_integer.specs.Dots.{scaled_sum, block_dot, sums_serve}
use Rattle.dots_rearranged.specs.Orders.{from}
use Rattle.dots_rearranged.specs.Moved.{run, Rearrangements}
use Rattle.dots_rearranged.specs.Laws.{Moved}
use Rattle.dots_rearranged.proofs.Places.{same_scale, scale_below, block_sum, part_sum}

every_same : (p q : ℕ → Bool) (k : ℕ) → ((j : ℕ) → j < k → p j ≡ q j) → every p k ≡ every q k
unfolding every
every_same p q zero h = refl
every_same p q (suc k) h = rw (every_same p q k (λ j l. h j (omega arith)), h k (omega arith))

-- qs' has the quants of qs moved
module _ (f : FormatK) (orders : ℕ → List ℕ) (each : Rearrangements f orders) (qs qs' : List ℤ) (moved : (i : ℕ) → i < 256 → elem qs' i ≡ elem qs (from (run f) orders i)) where
  -- the sums of 32
  pub sum_kept : (j : ℕ) → j < 8 → sum_of_32 qs' j ≡ sum_of_32 qs j
  sum_kept j h = sum_same _ _ 32 (λ l q. moved (32 * j + l) (omega arith)) ∙ part_sum f orders each (elem qs) j

  -- so sums serve after the move where they did before
  pub serve_kept : (sums : List ℤ) → sums_serve f qs' sums ≡ sums_serve f qs sums
  unfolding sums_right
  serve_kept sums = ap (λ (t : Bool). cond (has_minimums f) t true) (every_same (right_at qs' sums) (right_at qs sums) 8 (λ j h. ap (λ (z : ℤ). eq_z z (elem sums j)) (sum_kept j h)))

  -- A and B, of a block bs' that has the quants of bs moved in the same way
  module _ (bs bs' : List ℕ) (block : Moved f (from (run f) orders) bs bs') where
    -- a moved place has the same scale
    scale_kept : (i : ℕ) → i < 256 → scale_k f bs' i ≡ scale_k f bs (from (run f) orders i)
    scale_kept i h = block.scales (i / run_length f) (scale_below f i h) ∙ ap (scale_in f bs) (sym (same_scale f orders each i))

    weighed_kept : (i : ℕ) → i < 256 → weighed_at f bs' (quant_k f bs') qs' i ≡ weighed_at f bs (quant_k f bs) qs (from (run f) orders i)
    weighed_kept i h = rw (scale_kept i h, block.quants i h, moved i h)

    whole_kept : whole_sum f bs' qs' 256 ≡ whole_sum f bs qs 256
    whole_kept = sum_same _ _ 256 weighed_kept ∙ block_sum f orders each (weighed_at f bs (quant_k f bs) qs)

    minimum_kept : (sums : List ℤ) → has_minimums f ≡ true → minimum_sum bs' sums ≡ minimum_sum bs sums
    minimum_kept sums m = sum_same _ _ 8 (λ j h. ap (λ (k : ℕ). pos k *ℤ elem sums j) (block.minimums m j h))

    -- the dot over all 256 places
    pub dot_kept : (dx : Float) (sums : List ℤ) → block_dot f bs' dx qs' sums 256 ≡ block_dot f bs dx qs sums 256
    unfolding block_dot
    dot_kept dx sums = rw (whole_kept, block.d_same) (by (has_minimums f) block.dmin_same (minimum_kept sums))
      where
        a : Float
        a = scaled_sum (d_of f bs) dx (whole_sum f bs qs 256)

        less : List ℕ → Float
        less w = sub binary32 a (scaled_sum (dmin_of w) dx (minimum_sum w sums))

        by : (t : Bool) → (t ≡ true → dmin_of bs' ≡ dmin_of bs) → (t ≡ true → minimum_sum bs' sums ≡ minimum_sum bs sums) → cond t (less bs') a ≡ cond t (less bs) a
        by true d m = rw (d refl, m refl)
        by false d m = refl
