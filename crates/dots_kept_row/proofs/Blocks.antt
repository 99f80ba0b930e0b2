-- A row's blocks as they are kept: a block is laid behind those that are kept already, and is lent again. Assumes nothing.
use mathlib.Core.Path.{◌≡◌, refl, sym, ◌∙◌, subst}
use mathlib.Core.List.{List}
use Prim.Native.Nat.{ℕ, ◌+◌, ◌-◌, ◌*◌, ◌≤◌, ◌<◌}
use native.Mathlib.Nat.{not-suc-le-zero}
use native.Mathlib.Omega.{arith}
use borrow.Author.Count.{below_more}
use lib.ListN.{length, take, drop, set}
use lib.Seq.{get_or-set_same, get_or-set_other}
use lib.Ieee.{Float}
use Rattle.memory.specs.Lists.{part}
use Rattle.memory.proofs.Parts.{within}
use Rattle.memory.proofs.Filled.{part_length}
use Rattle.layouts.specs.Formats.{bytes_k}
use Rattle.layouts.specs.declared.format.FormatK.{FormatK}
use Rattle.dots_activation.specs.Blocks.{block_of}
use Rattle.dots_integer.proofs.Bounds.{block_long, small_sums}
use Rattle.dots_kept_row.specs.declared.kept.KeptBlock.{KeptBlock}
use Rattle.dots_kept_row.specs.Inner.{WholeBlock, KeptRow, Keeps, kept_of, none_kept, kept_at}

-- block t of a row of weights lies within them ..
pub lies : (f : FormatK) (w : List ℕ) {size n t : ℕ} → size ≡ bytes_k f → n * bytes_k f ≤ length w → t < n → t * size + size ≤ length w
lies f w {size} {n} {t} e h l = within t size n (length w) l (rw e h)

-- .. and is lent as long as it is
pub lent : (f : FormatK) (w : List ℕ) {size n t : ℕ} → size ≡ bytes_k f → n * bytes_k f ≤ length w → t < n → length (take (t * size + size - t * size) (drop (t * size) w)) ≡ bytes_k f
lent f w {size} {n} {t} e h l = part_length w (t * size) size (t * size + size) refl (lies f w e h l) ∙ e

pub keeps_none : (x : List Float) (kept : List KeptBlock) → Keeps x 0 kept
keeps_none x kept = record { at = λ t h. absurd (not-suc-le-zero h) }

-- the block of the next 256 readings is laid at t
pub keeps_more : (x : List Float) (kept : List KeptBlock) (t : ℕ) (b : KeptBlock) → Keeps x t kept → t < length kept
    → b ≡ kept_of (block_of (part x (256 * t) 256)) → Keeps x (t + 1) (set kept t b)
keeps_more x kept t b h room e =
    record {
      at =
          below_more (λ (u : ℕ). kept_at (set kept t b) u ≡ kept_of (block_of (part x (256 * u) 256))) t
          (λ u l. get_or-set_other kept t u b none_kept (λ s. omega arith) ∙ h.at u l)
          (get_or-set_same kept t b none_kept room ∙ e);
    }

-- the blocks of readings are whole
pub kept_by : (x : List Float) (n : ℕ) (kept : List KeptBlock) → n ≤ length kept → Keeps x n kept → KeptRow n kept
kept_by x n kept r h =
    record {
      room = r;
      at = λ t l.
          let from = part x (256 * t) 256 in
          let long = block_long from in
          subst WholeBlock (sym (h.at t l)) (record { quants = long.0; eight = long.1; small = small_sums from });
    }
