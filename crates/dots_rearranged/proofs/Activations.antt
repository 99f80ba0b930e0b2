-- Readings that are moved before they are quantised: the largest magnitude, and so the scale, is the same, and the quants are moved alike. Assumes nothing.
use mathlib.Core.Path.{◌≡◌, refl, sym, ap, ◌∙◌}
use mathlib.Core.Bool.{cond}
use mathlib.Core.List.{List}
use Prim.Native.Nat.{ℕ, ◌+◌, ◌*◌, ◌/◌, ◌≤◌, ◌<◌}
use native.Mathlib.Omega.{arith}
use borrow.Author.Tests.{lt-ltb, le-ltb}
use lib.Dec.{T, ltb}
use lib.IntN.{pos}
use lib.ListN.{length, get_or, drop, length-drop}
use lib.Seq.{length-take-le}
use lib.Ieee.{Float, nan, binary32, fits}
use Rattle.memory.specs.Lists.{table, part}
use Rattle.memory.proofs.Filled.{length_table, get_or_table, table_ext, part_at}
use Rattle.layouts.specs.declared.format.FormatK.{FormatK}
use Rattle.readings.specs.Readings.{largest, scale_q8, inverse}
use Rattle.readings.proofs.Peaks.{peak, peak_same}
use Rattle.readings.proofs.Largest.{units_of, units_at, largest_measured, same_size}
use Rattle.dots_activation.specs.Whole.{elem}
use Rattle.dots_activation.specs.Blocks.{quant_at, quants_of, sums_of, block_of}
use Rattle.dots_rearranged.specs.Orders.{from}
use Rattle.dots_rearranged.specs.Moved.{run, Rearrangements, of_block, moved_readings, moved_block}
use Rattle.dots_rearranged.specs.Laws.{Singles}
use Rattle.dots_rearranged.proofs.Places.{in_block, in_its_block, block_peak}
use Rattle.dots_rearranged.proofs.Dots.{sum_kept}
use Rattle.dots_rearranged.proofs.Weights.{part_same}

-- ---- 256 readings xs, and the same moved

module _ (f : FormatK) (orders : ℕ → List ℕ) (each : Rearrangements f orders) (xs xs' : List Float) (long : length xs ≡ 256) (long' : length xs' ≡ 256)
    (moved : (i : ℕ) → i < 256 → get_or xs' i nan ≡ get_or xs (from (run f) orders i) nan) (single : (i : ℕ) → i < 256 → T (fits binary32 (get_or xs i nan))) where
  single' : (i : ℕ) → i < 256 → T (fits binary32 (get_or xs' i nan))
  single' i h = rw (moved i h) (single (from (run f) orders i) (in_block f orders each i h))

  -- THE LARGEST MAGNITUDE does not change under a rearrangement
  pub largest_kept : largest xs' 256 ≡ largest xs 256
  largest_kept =
      let same : peak (units_at xs') 256 ≡ peak (units_at xs) 256 = peak_same _ _ 256 (λ i h. ap units_of (moved i h)) ∙ block_peak f orders each (units_at xs) in
      same_size (rw same at (largest_measured xs' 256 single')) (largest_measured xs 256 single)

  pub scale_kept : scale_q8 xs' ≡ scale_q8 xs
  scale_kept = rw (long, long', largest_kept)

  quant_moved : (i : ℕ) → i < 256 → quant_at xs' (inverse (scale_q8 xs')) i ≡ elem (quants_of xs) (from (run f) orders i)
  quant_moved i h =
      let p = from (run f) orders i in
      let inside : p < 256 = in_block f orders each i h in
      ap (λ (d : Float). quant_at xs' (inverse d) i) scale_kept
      ∙ rw (long', lt-ltb i 256 h, moved i h)
      (sym (get_or_table (quant_at xs (inverse (scale_q8 xs))) 256 p (pos 0) inside ∙ rw (long, lt-ltb p 256 inside)))

  pub block_moved : block_of xs' ≡ moved_block f orders (block_of xs)
  unfolding block_of moved_block
  block_moved =
      let quants : quants_of xs' ≡ table (λ i. elem (quants_of xs) (from (run f) orders i)) 256 = table_ext _ _ 256 quant_moved in
      let at : (i : ℕ) → i < 256 → elem (quants_of xs') i ≡ elem (quants_of xs) (from (run f) orders i) = λ i h. get_or_table _ 256 i (pos 0) h ∙ quant_moved i h in
      let sums : sums_of (quants_of xs') ≡ sums_of (quants_of xs) = table_ext _ _ 8 (sum_kept f orders each (quants_of xs) (quants_of xs') at) in
      cc (scale_kept)

-- ---- the readings of a row, of which the first m blocks are moved

module _ (f : FormatK) (orders : ℕ → List ℕ) (m : ℕ) (x : List Float) where
  abbrev reading_at : ℕ → Float
  reading_at i = get_or x (cond (ltb i (256 * m)) (from (run f) orders i) i) nan

  pub readings_long : length (moved_readings f orders m x) ≡ length x
  unfolding moved_readings
  readings_long = length_table reading_at (length x)

  -- what lies behind the m blocks
  pub readings_behind : (a k : ℕ) → 256 * m ≤ a → part (moved_readings f orders m x) a k ≡ part x a k
  unfolding moved_readings
  readings_behind a k h = part_same reading_at x a k nan (λ i g l. rw (le-ltb i (256 * m) (omega arith)))

  module _ (each : Rearrangements f orders) (single : Singles x) (b : ℕ) (h : b < m) (enough : 256 * m ≤ length x) where
    each_in : Rearrangements f (of_block f orders b)
    each_in r = each (256 / run f * b + r)

    in_part : (l : List Float) → length l ≡ length x → length (part l (256 * b) 256) ≡ 256
    in_part l e = length-take-le 256 (drop (256 * b) l) (rw length-drop (omega arith))

    reading_moved : (i : ℕ) → i < 256 → get_or (part (moved_readings f orders m x) (256 * b) 256) i nan ≡ get_or (part x (256 * b) 256) (from (run f) (of_block f orders b) i) nan
    unfolding moved_readings
    reading_moved i l =
        let inside : 256 * b + i < 256 * m = omega arith in
        part_at (table reading_at (length x)) (256 * b) 256 i nan l
        ∙ get_or_table reading_at (length x) (256 * b + i) nan (omega arith)
        ∙ rw (lt-ltb (256 * b + i) (256 * m) inside, in_its_block f orders b i)
        (sym (part_at x (256 * b) 256 (from (run f) (of_block f orders b) i) nan (in_block f (of_block f orders b) each_in i l)))

    -- block b of the readings, quantised
    pub readings_moved : block_of (part (moved_readings f orders m x) (256 * b) 256) ≡ moved_block f (of_block f orders b) (block_of (part x (256 * b) 256))
    readings_moved =
        block_moved f (of_block f orders b) each_in (part x (256 * b) 256) (part (moved_readings f orders m x) (256 * b) 256) (in_part x refl) (in_part (moved_readings f orders m x) readings_long) reading_moved
        (λ i l. rw (part_at x (256 * b) 256 i nan l) (single.single (256 * b + i)))

-- ---- 256 readings

pub activations : (f : FormatK) (orders : ℕ → List ℕ) → Rearrangements f orders → (x : List Float) → Singles x → length x ≡ 256 → block_of (moved_readings f orders 1 x) ≡ moved_block f orders (block_of x)
unfolding moved_readings
activations f orders each x single long =
    block_moved f orders each x (moved_readings f orders 1 x) long (readings_long f orders 1 x ∙ long)
    (λ i h. get_or_table (reading_at f orders 1 x) (length x) i nan (omega arith) ∙ rw (lt-ltb i (256 * 1) (omega arith)))
    (λ i h. single.single i)
