-- Which blocks a block dot answers, and with what. Assumes nothing.
use mathlib.Core.Path.{◌≡◌, refl, ap, ◌∙◌}
use mathlib.Core.Bool.{Bool, true, false, not, cond}
use mathlib.Core.List.{List}
use Prim.Native.Nat.{ℕ, ◌≤◌, ◌<◌, min}
use native.Mathlib.Omega.{arith}
use borrow.Author.Tests.{le-ltb, not-false}
use lib.ListN.{length, take}
use lib.Ieee.{Float}
use Rattle.refusals.proofs.Laws.{given_yes, given_no, given_passed}
use Rattle.std.proofs.Common.{Ok, Err}
use Rattle.refusals.specs.declared.refusal.Refusal.TheVariants.{WrongCount}
use Rattle.layouts.specs.Formats.{bytes_k, has_minimums}
use Rattle.layouts.specs.declared.format.FormatK.{FormatK}
use Rattle.dots_activation.specs.declared.block.Q8Block.{Q8Block}
use Rattle.dots_activation.specs.Blocks.{block_of, sums_right}
use Rattle.dots_activation.proofs.Past.{above_serves_none}
use Rattle.dots_integer.specs.Dots.{dot_with, block_dot_says}
use Rattle.dots_integer.proofs.Dots.{served_below}
use Rattle.dots_integer.proofs.Bounds.{sums_right_lem, count_right}

module _ (f : FormatK) (w : List ℕ) where
  -- Where a block dot answers, places past n add nothing: its answer is the dot over all 256.
  pub over_all_places : (b : Q8Block) (n : ℕ) (v : Float) → block_dot_says f w b n ≡ Ok v → v ≡ dot_with f (take (bytes_k f) w) b 256
  unfolding block_dot_says
  over_all_places b n v e =
      let p = given_passed _ _ _ v e in
      let q = given_passed _ _ _ v p.1 in
      let r = given_passed _ _ _ v q.1 in
      let s = served_below f (take (bytes_k f) w) b.d b.qs b.bsums b.count n (not-false _ q.0) in
      cc

  -- a block of our quantizer is answered for as many places as it has readings
  pub ours_answered : (xs : List Float) → length xs ≤ 256 → bytes_k f ≤ length w → block_dot_says f w (block_of xs) (length xs) ≡ Ok (dot_with f (take (bytes_k f) w) (block_of xs) (length xs))
  unfolding block_dot_says
  ours_answered xs h k =
      let held : min (length xs) 256 ≡ length xs = omega arith in
      given_no _ _ _ (le-ltb (length w) (bytes_k f) k) ∙ given_no _ _ _ (ap not (count_right xs h)) ∙ given_no _ _ _ (ap not (serve (has_minimums f)))
      ∙ ap (λ (n : ℕ). Ok (dot_with f (take (bytes_k f) w) (block_of xs) n)) held
    where
      serve : (t : Bool) → cond t (sums_right (block_of xs).qs (block_of xs).bsums) true ≡ true
      serve true = sums_right_lem xs
      serve false = refl

  -- a count above 256 is refused with 15, whatever n is
  pub count_above : (b : Q8Block) (n : ℕ) → bytes_k f ≤ length w → 256 < b.count → block_dot_says f w b n ≡ Err WrongCount
  unfolding block_dot_says
  count_above b n k h = given_no _ _ _ (le-ltb (length w) (bytes_k f) k) ∙ given_yes _ _ _ (ap not (above_serves_none b.qs b.count h n))
