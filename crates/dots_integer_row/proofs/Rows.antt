-- The dots of a row's blocks in an array of 512, and their tree. Assumes nothing.
use mathlib.Core.Path.{◌≡◌, ap, ◌∙◌}
use mathlib.Core.List.{List}
use Prim.Native.Nat.{ℕ, ◌+◌, ◌-◌, ◌*◌, ◌≤◌, ◌<◌}
use native.Mathlib.Omega.{arith}
use lib.ListN.{length, take, drop, set, length-take}
use lib.Seq.{take_at}
use lib.Ieee.{Float}
use Rattle.refusals.specs.Sizes.{most_in}
use Rattle.memory.specs.Lists.{table, filled, part, stretch_length, stretches_in}
use Rattle.memory.proofs.Filled.{length_table, Filling, filling_start, filling_more}
use Rattle.memory.proofs.Parts.{within, lent_part}
use Rattle.layouts.specs.declared.format.FormatK.{FormatK}
use Rattle.layouts.specs.declared.format.Format.TheVariants.{OfK}
use Rattle.layouts.specs.Formats.{bytes_k}
use Rattle.layouts.specs.Weights.{block}
use Rattle.sums_tree.specs.Tree.{tree, combined}
use Rattle.dots_activation.specs.declared.block.Q8Block.{Q8Block}
use Rattle.dots_activation.specs.Blocks.{block_of}
use Rattle.dots_integer.specs.Dots.{dot_with}
use Rattle.dots_integer.proofs.Dots.{dot_below}
use Rattle.dots_integer.proofs.Bounds.{quants_past}
use Rattle.dots_integer_row.specs.Rows.{block_at, integer_row}

-- block b lies within the row's weights
pub lies : (f : FormatK) (w : List ℕ) (n : ℕ) {size m b : ℕ} → size ≡ bytes_k f → stretches_in 256 n * bytes_k f ≤ length w → m ≡ stretches_in 256 n → b < m → b * size + size ≤ length w
lies f w n {size} {m} {b} e h k l = within b size m (length w) l (rw (k, e) h)

module _ (f : FormatK) (x : List Float) (w : List ℕ) (n : ℕ) where
  -- the dot, over all places, of the part of the weights that is block b and the block q of the part of the readings up to e
  pub block_is : (b e size : ℕ) (q : Q8Block) → size ≡ bytes_k f → e ≡ 256 * b + stretch_length 256 n b → q ≡ block_of (take (e - 256 * b) (drop (256 * b) x))
      → dot_with f (take (b * size + size - b * size) (drop (b * size) w)) q 256 ≡ block_at f x w n b
  block_is b e size q s h k =
      let readings : e - 256 * b ≡ stretch_length 256 n b = omega arith in
      let xs = part x (256 * b) (stretch_length 256 n b) in
      rw (k, lent_part w b size (bytes_k f) s, readings)
      (dot_below f (block (OfK f) w b) (block_of xs).d (block_of xs).qs (block_of xs).bsums (stretch_length 256 n b) (omega arith)
      (λ i p u. quants_past xs i (omega (arith, length-take (stretch_length 256 n b) (drop (256 * b) x))) u))

  -- after b of them the array, which held old, is dots
  abbrev pub Dots : List Float → List Float → ℕ → Type 0
  Dots old dots b = (b ≤ stretches_in 256 n) × Filling (block_at f x w n) old 512 dots b

  pub dots_start : (old : List Float) → length old ≡ 512 → Dots old old 0
  dots_start old e = (omega arith, filling_start (block_at f x w n) old 512 e)

  pub dots_more : (old dots : List Float) (b : ℕ) (v : Float) → length old ≡ 512 → n ≤ most_in → b < stretches_in 256 n → v ≡ block_at f x w n b → Dots old dots b → Dots old (set dots b v) (b + 1)
  dots_more old dots b v e m h q p = (omega arith, filling_more (block_at f x w n) old 512 dots b v e p.1 (omega arith) q)

  -- `canonical_combine`, handed the first k places, one for each block, answers the row's dot
  pub dots_met : (old dots left : List Float) (b k : ℕ) (r : Float) → b ≡ k → k ≡ stretches_in 256 n → (r, left) ≡ combined (take k dots) → Dots old dots b → r ≡ integer_row f x w n
  unfolding integer_row
  dots_met old dots left b k r e h g p =
      ap (λ (q : Float × List Float). q.0) g
      ∙ ap (λ (l : List Float). tree (take k l)) (p.1.0 ∙ ap (filled (block_at f x w n) old) e)
      ∙ ap tree (take_at (table (block_at f x w n) k) (drop k old) k (length_table (block_at f x w n) k))
      ∙ ap (λ (m : ℕ). tree (table (block_at f x w n) m)) h
