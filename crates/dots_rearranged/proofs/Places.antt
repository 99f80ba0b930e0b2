-- A place that is moved stays in its run, and so in its 32 and in its block. Assumes nothing.
use mathlib.Core.Path.{◌≡◌, refl, sym, ap, ◌∙◌}
use mathlib.Core.Bool.{cond}
use mathlib.Core.List.{List}
use Prim.Native.Nat.{ℕ, ◌+◌, ◌*◌, ◌/◌, ◌%◌, ◌<◌}
use native.Mathlib.Nat.{mul-one, mul_assoc, mul_comm, mul-div_cancel, mul-add-div, div-eq_of_lt, mod-lt, add-zero, div-div-eq-div-mul}
use native.Mathlib.Omega.{arith}
use lib.Dec.{lit<}
use lib.IntN.{ℤ}
use lib.ListN.{get_or}
use Rattle.layouts.specs.declared.format.FormatK.{FormatK}
use Rattle.layouts.specs.declared.format.FormatK.TheVariants.{Q4K, Q5K, Q6K}
use Rattle.layouts.specs.Formats.{has_minimums, run_length}
use Rattle.readings.proofs.Peaks.{peak}
use Rattle.dots_activation.specs.Whole.{sum_ℤ}
use Rattle.dots_activation.proofs.Ranges.{sum_same}
use Rattle.dots_rearranged.specs.Orders.{Rearrangement, from}
use Rattle.dots_rearranged.specs.Moved.{run, Rearrangements, of_block}
use Rattle.dots_rearranged.proofs.Gathered.{place_below, from_shift, sum_moved, peak_moved}

-- ---- a run's places have one scale

in_run : (R : ℕ) (orders : ℕ → List ℕ) → 0 < R → ((r : ℕ) → Rearrangement R (orders r)) → (i : ℕ) → from R orders i / R ≡ i / R
in_run R orders some each i = mul-add-div some (i / R) (get_or (orders (i / R)) (i % R) 0) ∙ rw (div-eq_of_lt (place_below (each (i / R)) (i % R) (mod-lt i some))) (add-zero (i / R))

some_places : (f : FormatK) → 0 < run f
some_places Q4K = lit< tt
some_places Q5K = lit< tt
some_places Q6K = lit< tt

-- a moved place has the same scale
pub same_scale : (f : FormatK) (orders : ℕ → List ℕ) → Rearrangements f orders → (i : ℕ) → from (run f) orders i / run_length f ≡ i / run_length f
same_scale f orders each i = in_run (run f) orders (some_places f) each i

-- the scale of a place of a block is one of its scales
pub scale_below : (f : FormatK) (i : ℕ) → i < 256 → i / run_length f < 256 / run_length f
scale_below Q4K i h = omega arith
scale_below Q5K i h = omega arith
scale_below Q6K i h = omega arith

-- ---- runs of R places, p of which are 32

module _ (R p : ℕ) (some : 0 < R) (d : R * p ≡ 32) where
  -- so many runs are 32 k places
  filled : (k : ℕ) → R * (p * k) ≡ 32 * k
  filled k = sym (mul_assoc R p k) ∙ ap (λ (n : ℕ). n * k) d

  -- and so many are k blocks
  runs_of : (k : ℕ) → 256 * k / R ≡ p * 8 * k
  runs_of k =
      let e : 256 * k ≡ p * 8 * k * R = sym (mul_comm (p * 8 * k) R ∙ ap (λ (n : ℕ). R * n) (mul_assoc p 8 k) ∙ filled (8 * k) ∙ sym (mul_assoc 32 8 k)) in
      ap (λ (n : ℕ). n / R) e ∙ mul-div_cancel (p * 8 * k) some

  module _ (orders : ℕ → List ℕ) where
    -- the places from 32 k on, by the runs from there on
    shifted : (k i : ℕ) → from R orders (32 * k + i) ≡ 32 * k + from R (λ r. orders (p * k + r)) i
    shifted k i = rw (← filled k) (from_shift R orders (p * k) i some)

  module _ (orders : ℕ → List ℕ) (each : (r : ℕ) → Rearrangement R (orders r)) where
    in_32 : (i : ℕ) → from R orders i / 32 ≡ i / 32
    in_32 i = rw (← d, ← div-div-eq-div-mul (from R orders i) R p, ← div-div-eq-div-mul i R p, in_run R orders some each i)

    sum_256 : (g : ℕ → ℤ) → sum_ℤ (λ i. g (from R orders i)) 256 ≡ sum_ℤ g 256
    sum_256 g = sum_moved g R (p * 8) 256 orders (filled 8) some each

    peak_256 : (g : ℕ → ℕ) → peak (λ i. g (from R orders i)) 256 ≡ peak g 256
    peak_256 g = peak_moved g R (p * 8) 256 orders (filled 8) some each

  -- 32 places from 32 j on
  sum_32 : (orders : ℕ → List ℕ) → ((r : ℕ) → Rearrangement R (orders r)) → (g : ℕ → ℤ) (j : ℕ) → sum_ℤ (λ l. g (from R orders (32 * j + l))) 32 ≡ sum_ℤ (λ l. g (32 * j + l)) 32
  sum_32 orders each g j = sum_same _ _ 32 (λ l h. ap g (shifted orders j l)) ∙ sum_moved (λ n. g (32 * j + n)) R p 32 (λ r. orders (p * j + r)) d some (λ r. each (p * j + r))

-- ---- of each format

-- how many runs are 32 places
abbrev runs_in_32 : FormatK → ℕ
runs_in_32 f = cond (has_minimums f) 1 2

-- 32 places are whole runs
whole_runs : (f : FormatK) → run f * runs_in_32 f ≡ 32
whole_runs Q4K = refl
whole_runs Q5K = refl
whole_runs Q6K = refl

pub runs_in : (f : FormatK) (k : ℕ) → 256 * k / run f ≡ 256 / run f * k
runs_in f k =
    let p = runs_in_32 f in
    runs_of (run f) p (some_places f) (whole_runs f) k ∙ ap (λ (n : ℕ). n * k) (sym (runs_of (run f) p (some_places f) (whole_runs f) 1 ∙ mul-one (p * 8)))

module _ (f : FormatK) (orders : ℕ → List ℕ) (each : Rearrangements f orders) where
  pub same_32 : (i : ℕ) → from (run f) orders i / 32 ≡ i / 32
  same_32 = in_32 (run f) (runs_in_32 f) (some_places f) (whole_runs f) orders each

  pub in_block : (i : ℕ) → i < 256 → from (run f) orders i < 256
  in_block i h = within (from (run f) orders i) (same_32 i)
    where
      within : (n : ℕ) → n / 32 ≡ i / 32 → n < 256
      within n e = omega arith

  -- over a block: its sum, the sums of its 32s, and its largest number
  pub block_sum : (g : ℕ → ℤ) → sum_ℤ (λ i. g (from (run f) orders i)) 256 ≡ sum_ℤ g 256
  block_sum = sum_256 (run f) (runs_in_32 f) (some_places f) (whole_runs f) orders each

  pub part_sum : (g : ℕ → ℤ) (j : ℕ) → sum_ℤ (λ l. g (from (run f) orders (32 * j + l))) 32 ≡ sum_ℤ (λ l. g (32 * j + l)) 32
  part_sum = sum_32 (run f) (runs_in_32 f) (some_places f) (whole_runs f) orders each

  pub block_peak : (g : ℕ → ℕ) → peak (λ i. g (from (run f) orders i)) 256 ≡ peak g 256
  block_peak = peak_256 (run f) (runs_in_32 f) (some_places f) (whole_runs f) orders each

-- places of block b, by the runs of that block
pub in_its_block : (f : FormatK) (orders : ℕ → List ℕ) (b i : ℕ) → from (run f) orders (256 * b + i) ≡ 256 * b + from (run f) (of_block f orders b) i
in_its_block f orders b i =
    let R = run f in
    let start : R * (256 / R * b) ≡ 256 * b = ap (λ (n : ℕ). R * (n * b)) (runs_of R (runs_in_32 f) (some_places f) (whole_runs f) 1 ∙ mul-one _) ∙ ap (λ (n : ℕ). R * n) (mul_assoc (runs_in_32 f) 8 b) ∙ filled R (runs_in_32 f) (some_places f) (whole_runs f) (8 * b) ∙ sym (mul_assoc 32 8 b) in
    rw (← start) (from_shift R orders (256 / R * b) i (some_places f))
