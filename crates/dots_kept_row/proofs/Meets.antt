-- How row results meet: one more, and results that are the same. Assumes nothing.
use mathlib.Core.Path.{◌≡◌, refl, sym, ap, ◌∙◌}
use mathlib.Core.List.{List}
use Prim.Native.Nat.{ℕ, zero, suc, ◌+◌, ◌<◌}
use native.Mathlib.Nat.{lt_trans, lt-suc_self}
use native.Mathlib.Numerals.{add-one}
use lib.ListN.{length, get_or}
use lib.Ieee.{Float, nan, binary32, add}
use Rattle.memory.specs.Lists.{table}
use Rattle.memory.proofs.Filled.{length_table, get_or_table, table_ext, table_of}
use Rattle.numbers.specs.Steps.{nought}
use Rattle.sums_lanes.specs.Lanes.{values}
use Rattle.sums_tree.specs.Tree.{tree}
use Rattle.dots_kept_row.specs.declared.meeting.Meeting.{Meeting}
use Rattle.dots_kept_row.specs.declared.meeting.Meeting.TheVariants.{Tree, Running}
use Rattle.dots_kept_row.specs.Meets.{running, meets}

pub running_none : (v : ℕ → Float) → nought ≡ running v 0
unfolding running
running_none v = refl

pub running_more : (v : ℕ → Float) (n : ℕ) → add binary32 (running v n) (v n) ≡ running v (n + 1)
unfolding running
running_more v n = rw add-one

running_ext : (u v : ℕ → Float) (n : ℕ) → ((i : ℕ) → i < n → u i ≡ v i) → running u n ≡ running v n
unfolding running
running_ext u v zero h = refl
running_ext u v (suc n) h = rw (running_ext u v n (λ i l. h i (lt_trans l (lt-suc_self n))), h n (lt-suc_self n))

pub meets_ext : (m : Meeting) (u v : ℕ → Float) (n : ℕ) → ((i : ℕ) → i < n → u i ≡ v i) → meets m u n ≡ meets m v n
unfolding meets
meets_ext Tree u v n h = ap tree (table_ext u v n h)
meets_ext Running u v n h = running_ext u v n h

-- ---- results in a slice

pub tree_meets : (l : List Float) → tree l ≡ meets Tree (values l) (length l)
unfolding meets
tree_meets l = ap tree (sym (table_of l (length l) nan refl))

pub running_meets : (l : List Float) → running (values l) (length l) ≡ meets Running (values l) (length l)
unfolding meets
running_meets l = refl

-- a slice that is the table of v
pub table_meets : (m : Meeting) (v : ℕ → Float) (l : List Float) (n : ℕ) → l ≡ table v n → meets m (values l) (length l) ≡ meets m v n
table_meets m v l n e =
    ap (meets m (values l)) (ap length e ∙ length_table v n)
    ∙ meets_ext m (values l) v n (λ i h. ap (λ (k : List Float). get_or k i nan) e ∙ get_or_table v n i nan h)
