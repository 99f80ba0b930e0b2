-- The blocks of moved weights: the first m are moved, and all behind them are kept. Assumes nothing.
use mathlib.Core.Path.{◌≡◌, sym, ◌∙◌}
use mathlib.Core.Bool.{cond}
use mathlib.Core.List.{List}
use Prim.Native.Nat.{ℕ, ◌+◌, ◌*◌, ◌/◌, ◌≤◌, ◌<◌}
use native.Mathlib.Nat.{lt_of_lt_of_le}
use native.Mathlib.Omega.{arith}
use borrow.Author.Tests.{lt-ltb, le-ltb}
use lib.Arith.{digits_lt, digits_div, digits_mod}
use lib.Dec.{ltb}
use lib.ListN.{length, get_or, length-take, length-drop}
use lib.Seq.{ext_get_or}
use Rattle.memory.specs.Lists.{table, part}
use Rattle.memory.proofs.Filled.{length_table, get_or_table, part_at}
use Rattle.layouts.specs.Formats.{bytes_k}
use Rattle.layouts.specs.Weights.{block}
use Rattle.layouts.specs.declared.format.Format.TheVariants.{OfK}
use Rattle.layouts.specs.declared.format.FormatK.{FormatK}
use Rattle.dots_rearranged.specs.Orders.{from}
use Rattle.dots_rearranged.specs.Moved.{run, Rearrangements, of_block, moved_byte, moved_at, moved_weights}
use Rattle.dots_rearranged.specs.Laws.{Moved}
use Rattle.dots_rearranged.proofs.Places.{same_32}
use Rattle.dots_rearranged.proofs.Quants.{moved_block}

-- a part of a table whose places are those of a list of the same length
pub part_same : {A : Type 0} (g : ℕ → A) (l : List A) (a k : ℕ) (z : A) → ((i : ℕ) → a ≤ i → i < length l → g i ≡ get_or l i z) → part (table g (length l)) a k ≡ part l a k
part_same g l a k z same = ext_get_or z (part (table g (length l)) a k) (part l a k) long at
  where
    long : length (part (table g (length l)) a k) ≡ length (part l a k)
    long = simp (length-take, length-drop, length_table)

    at : (i : ℕ) → i < length (part (table g (length l)) a k) → get_or (part (table g (length l)) a k) i z ≡ get_or (part l a k) i z
    at i h =
        let s = simp (length-take, length-drop, length_table) at h in
        part_at (table g (length l)) a k i z (omega arith) ∙ get_or_table g (length l) (a + i) z (omega arith) ∙ same (a + i) (omega arith) (omega arith) ∙ sym (part_at l a k i z (omega arith))

module _ (f : FormatK) (orders : ℕ → List ℕ) (m : ℕ) (w : List ℕ) where
  abbrev byte_at : ℕ → ℕ
  byte_at k = cond (ltb k (m * bytes_k f)) (moved_at f orders w k) (get_or w k 0)

  pub weights_long : length (moved_weights f orders m w) ≡ length w
  unfolding moved_weights
  weights_long = length_table byte_at (length w)

  -- what lies behind the m blocks
  pub weights_behind : (a k : ℕ) → m * bytes_k f ≤ a → part (moved_weights f orders m w) a k ≡ part w a k
  unfolding moved_weights
  weights_behind a k h = part_same byte_at w a k 0 (λ i g l. rw (le-ltb i (m * bytes_k f) (omega arith)))

  -- byte k of block b
  moved_byte_lem : (b k : ℕ) → b < m → m * bytes_k f ≤ length w → k < bytes_k f → get_or (block (OfK f) (moved_weights f orders m w) b) k 0 ≡ moved_byte f (from (run f) (of_block f orders b)) (block (OfK f) w b) k
  unfolding moved_weights
  moved_byte_lem b k h enough l =
      let z = bytes_k f in
      let inside : b * z + k < m * z = digits_lt h l in
      part_at (table byte_at (length w)) (b * z) z k 0 l
      ∙ get_or_table byte_at (length w) (b * z + k) 0 (lt_of_lt_of_le inside enough)
      ∙ rw (lt-ltb (b * z + k) (m * z) inside, digits_div b l, digits_mod b l)

  pub weights_moved : Rearrangements f orders → (b : ℕ) → b < m → m * bytes_k f ≤ length w → Moved f (from (run f) (of_block f orders b)) (block (OfK f) w b) (block (OfK f) (moved_weights f orders m w) b)
  weights_moved each b h enough =
      moved_block (block (OfK f) w b) (block (OfK f) (moved_weights f orders m w) b) (from (run f) (of_block f orders b))
      (λ i l. same_32 f (of_block f orders b) (λ r. each (256 / run f * b + r)) i)
      f
      (λ k l. moved_byte_lem b k h enough l)
