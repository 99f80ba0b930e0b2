-- What the block dots say of moved weights and a moved activation block, refusals and all. Assumes nothing.
use mathlib.Core.Path.{◌≡◌, refl, ap, fun_ext}
use mathlib.Core.Bool.{Bool, true, false, cond}
use mathlib.Core.List.{List}
use Prim.Native.Nat.{ℕ, ◌/◌, ◌≤◌, ◌<◌, min}
use native.Mathlib.Nat.{mul-zero, zero-mul, one-mul, zero-add}
use native.Mathlib.Omega.{arith}
use borrow.Author.Tests.{ltb-false, eqb-true}
use lib.Dec.{eqb, lit<}
use lib.IntN.{ℤ, pos}
use lib.ListN.{length, take}
use Rattle.refusals.specs.declared.refusal.Refusal.{Refusal}
use Rattle.refusals.specs.Said.{Said}
use Rattle.refusals.specs.Refusals.{given}
use Rattle.std.proofs.Common.{Ok}
use Rattle.memory.proofs.Every.{every_all}
use Rattle.memory.proofs.Filled.{get_or_table}
use Rattle.layouts.specs.Formats.{bytes_k}
use Rattle.layouts.specs.Weights.{block}
use Rattle.layouts.specs.declared.format.Format.TheVariants.{OfK}
use Rattle.layouts.specs.declared.format.FormatK.{FormatK}
use Rattle.dots_activation.specs.declared.block.Q8Block.{Q8Block}
use Rattle.dots_activation.specs.Whole.{elem}
use Rattle.dots_activation.specs.Blocks.{past_is_zero, zeros_past, count_serves}
use Rattle.dots_activation.proofs.Past.{below_passes}
use Rattle.dots_integer.specs.Dots.{dot_with, sums_serve, block_dot_says}
use Rattle.dots_rearranged.specs.Orders.{from}
use Rattle.dots_rearranged.specs.Moved.{run, Rearrangements, of_block, moved_weights, moved_block}
use Rattle.dots_rearranged.specs.Laws.{Moved}
use Rattle.dots_rearranged.proofs.Dots.{serve_kept, dot_kept}
use Rattle.dots_rearranged.proofs.Weights.{weights_long, weights_moved}

-- two answers to one check: the same, where what comes later is
pub given_same : {A : Type 0} (why : Refusal) (fails : Bool) {a b : Said A} → (fails ≡ false → a ≡ b) → given why fails a ≡ given why fails b
unfolding given
given_same why true h = refl
given_same why false h = h refl

-- a full block serves n, whatever its quants, and no other block does
all_below : (qs : List ℤ) → zeros_past qs 256 ≡ true
all_below qs = every_all (past_is_zero qs 256) 256 (below_passes qs 256)

count_kept : (qs qs' : List ℤ) (count n : ℕ) → 256 ≤ n → count_serves qs' count n ≡ count_serves qs count n
unfolding count_serves
count_kept qs qs' count n full =
    let most : min n 256 ≡ 256 = omega arith in
    rw most (by (eqb 256 count) refl)
  where
    by : (t : Bool) → eqb 256 count ≡ t → cond t (zeros_past qs' count) false ≡ cond t (zeros_past qs count) false
    by true e = rw (← eqb-true 256 count e, all_below qs', all_below qs)
    by false e = refl

module _ (f : FormatK) (orders : ℕ → List ℕ) (each : Rearrangements f orders) (b : Q8Block) where
  quants_at : (i : ℕ) → i < 256 → elem (moved_block f orders b).qs i ≡ elem b.qs (from (run f) orders i)
  unfolding moved_block
  quants_at i h = get_or_table (λ k. elem b.qs (from (run f) orders k)) 256 i (pos 0) h

  pub served : sums_serve f (moved_block f orders b).qs (moved_block f orders b).bsums ≡ sums_serve f b.qs b.bsums
  unfolding moved_block
  served = serve_kept f orders each b.qs (moved_block f orders b).qs quants_at b.bsums

  counted : (n : ℕ) → 256 ≤ n → count_serves (moved_block f orders b).qs (moved_block f orders b).count n ≡ count_serves b.qs b.count n
  unfolding moved_block
  counted n full = count_kept b.qs (moved_block f orders b).qs b.count n full

  -- over all 256 places
  pub with_moved : (bs bs' : List ℕ) → Moved f (from (run f) orders) bs bs' → dot_with f bs' (moved_block f orders b) 256 ≡ dot_with f bs b 256
  unfolding moved_block
  with_moved bs bs' block = dot_kept f orders each b.qs (moved_block f orders b).qs quants_at bs bs' block b.d b.bsums

-- the first block's runs are the first runs
first_runs : (f : FormatK) (orders : ℕ → List ℕ) → of_block f orders 0 ≡ orders
first_runs f orders = fun_ext (λ r. rw (mul-zero (256 / run f), zero-add r))

first_block : (f : FormatK) (w : List ℕ) → block (OfK f) w 0 ≡ take (bytes_k f) w
first_block f w = rw (zero-mul (bytes_k f))

-- THE BLOCK DOTS: of any bytes and any activation block, where n takes in all places
pub block_dots : (f : FormatK) (orders : ℕ → List ℕ) → Rearrangements f orders → (w : List ℕ) (b : Q8Block) (n : ℕ) → 256 ≤ n
    → block_dot_says f (moved_weights f orders 1 w) (moved_block f orders b) n ≡ block_dot_says f w b n
unfolding block_dot_says
block_dots f orders each w b n full =
    let most : min n 256 ≡ 256 = omega arith in
    rw (weights_long f orders 1 w, counted f orders each b n full, served f orders each b, most) (given_same _ _ (λ e. given_same _ _ (λ c. given_same _ _ (λ s. ap Ok (first (ltb-false (length w) (bytes_k f) e))))))
  where
    first : bytes_k f ≤ length w → dot_with f (take (bytes_k f) (moved_weights f orders 1 w)) (moved_block f orders b) 256 ≡ dot_with f (take (bytes_k f) w) b 256
    first h =
        rw (← first_block f (moved_weights f orders 1 w), ← first_block f w)
        (with_moved f orders each b (block (OfK f) w 0) (block (OfK f) (moved_weights f orders 1 w) 0)
        (rw (first_runs f orders) at (weights_moved f orders 1 w each 0 (lit< tt) (rw one-mul h))))
