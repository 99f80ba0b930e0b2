-- A run, visit by visit. Assumes nothing.
use Prim.Native.Nat.{ℕ, zero, suc, ◌+◌, ◌-◌, ◌≤◌, ◌<◌}
use mathlib.Core.Path.{◌≡◌, refl, sym, ◌∙◌, ap}
use mathlib.Core.List.{List}
use native.Mathlib.Omega.{arith}
use native.Mathlib.Numerals.{add-one}
use native.Mathlib.Nat.{zero-add, suc-add}
use lib.ListN.{length, get_or, length-set}
use lib.Ieee.{Float}
use borrow.Author.Tests.{eq-eqb, ne_eqb, lt-ltb, le-ltb}
use Rattle.layouts.specs.declared.format.FormatK.{FormatK}
use Rattle.stepped_shape.specs.declared.shape.Layer.{Layer}
use Rattle.stepped_shape.specs.Layer.{Memory, chunks, place}
use Rattle.stepped_pieces.specs.Pieces.{worked}
use Rattle.stepped.specs.Says.{Work, work, visit, visit_row, visit_rows}

-- what the loops keep, which began with the memory m: both lists' lengths, at most the budget, and the work k of the visits so far
pub record Kept (budget : ℕ) (m : Memory) (a k : Work) : Type 0 where
  pub slots_len : length a.holds.slots ≡ length m.slots
  pub marks_len : length a.holds.marks ≡ length m.marks
  pub few : a.done ≤ budget
  pub state : a ≡ k

-- a budget that is not spent
pub ne_lt : (a b : ℕ) → a ≤ b → (a ≡ b → ⊥) → a < b
ne_lt a b h n = omega arith

module _ (f : FormatK) (l : Layer) (w : List ℕ) (x : List Float) (budget : ℕ) where
  -- a visit, by what it finds: an open piece, a piece that is done, a budget that is spent
  pub visit_open : (row c : ℕ) (a : Work) → a.done < budget → get_or a.holds.marks (place l row c) 0 ≡ 0
      → visit f l w x budget row c a ≡ work (worked f l w x row c a.holds) (a.done + 1)
  unfolding visit
  visit_open row c a h z = simp (lt-ltb _ _ h, eq-eqb _ _ z)

  pub visit_done : (row c : ℕ) (a : Work) → a.done < budget → (get_or a.holds.marks (place l row c) 0 ≡ 0 → ⊥) → visit f l w x budget row c a ≡ a
  unfolding visit
  visit_done row c a h z = simp (lt-ltb _ _ h, ne_eqb _ _ z)

  pub visit_over : (row c : ℕ) (a : Work) → budget ≤ a.done → visit f l w x budget row c a ≡ a
  unfolding visit
  visit_over row c a h = simp (le-ltb a.done budget h)

  -- one more chunk, one more row, in the code's terms
  row_more : (row n : ℕ) (k : Work) → visit_row f l w x budget row (n + 1) k ≡ visit f l w x budget row n (visit_row f l w x budget row n k)
  unfolding visit_row
  row_more row n k = rw add-one

  rows_more : (n : ℕ) (k : Work) → visit_rows f l w x budget (n + 1) k ≡ visit_row f l w x budget n (chunks l) (visit_rows f l w x budget n k)
  unfolding visit_rows
  rows_more n k = rw add-one

  -- once the budget is spent, nothing more is done
  module _ (a : Work) (spent : budget ≤ a.done) where
    row_spent : (row n m : ℕ) (k : Work) → visit_row f l w x budget row n k ≡ a → visit_row f l w x budget row (m + n) k ≡ a
    unfolding visit_row
    row_spent row n zero k h = simp (zero-add n) h
    row_spent row n (suc m) k h = simp (suc-add m n, row_spent row n m k h) (visit_over row (m + n) a spent)

    rows_spent : (n m : ℕ) (k : Work) → visit_rows f l w x budget n k ≡ a → visit_rows f l w x budget (m + n) k ≡ a
    unfolding visit_rows visit_row
    rows_spent n zero k h = simp (zero-add n) h
    rows_spent n (suc m) k h = simp (suc-add m n, rows_spent n m k h) (all (chunks l))
      where
        all : (j : ℕ) → visit_row f l w x budget (m + n) j a ≡ a
        all zero = refl
        all (suc j) = simp (all j) (visit_over (m + n) j a spent)

    -- left in the middle of a row: that is the work of all rows
    pub stopped : (rows row c : ℕ) (k : Work) → row < rows → c ≤ chunks l
        → visit_row f l w x budget row c (visit_rows f l w x budget row k) ≡ a → visit_rows f l w x budget rows k ≡ a
    stopped rows row c k hr hc h =
        let p : chunks l - c + c ≡ chunks l = omega arith in
        let q : rows - (row + 1) + (row + 1) ≡ rows = omega arith in
        let e : visit_row f l w x budget row (chunks l) (visit_rows f l w x budget row k) ≡ a = simp p at (row_spent row c (chunks l - c) _ h) in
        simp q at (rows_spent (row + 1) (rows - (row + 1)) k (rows_more row k ∙ e))

  -- a turn of the inner loop: the piece was open and is worked, or was done before
  pub kept_open : (m : Memory) (a : Work) (row c : ℕ) (k : Work)
      → Kept budget m a (visit_row f l w x budget row c k) → a.done < budget → get_or a.holds.marks (place l row c) 0 ≡ 0
      → Kept budget m (work (worked f l w x row c a.holds) (a.done + 1)) (visit_row f l w x budget row (c + 1) k)
  kept_open m a row c k h u z = record {
    slots_len = simp length-set h.slots_len;
    marks_len = simp length-set h.marks_len;
    few = omega arith;
    state = sym (visit_open row c a u z) ∙ ap (visit f l w x budget row c) h.state ∙ sym (row_more row c k);
  }

  pub kept_done : (m : Memory) (a : Work) (row c : ℕ) (k : Work)
      → Kept budget m a (visit_row f l w x budget row c k) → a.done < budget → (get_or a.holds.marks (place l row c) 0 ≡ 0 → ⊥)
      → Kept budget m a (visit_row f l w x budget row (c + 1) k)
  kept_done m a row c k h u z = record {
    slots_len = h.slots_len;
    marks_len = h.marks_len;
    few = h.few;
    state = sym (visit_done row c a u z) ∙ ap (visit f l w x budget row c) h.state ∙ sym (row_more row c k);
  }

  -- a turn of the outer loop
  pub kept_row : (m : Memory) (b a : Work) (row n : ℕ) (k : Work)
      → Kept budget m b (visit_rows f l w x budget row k) → n ≡ chunks l → Kept budget b.holds a (visit_row f l w x budget row n b)
      → Kept budget m a (visit_rows f l w x budget (row + 1) k)
  kept_row m b a row n k h e g = record {
    slots_len = g.slots_len ∙ h.slots_len;
    marks_len = g.marks_len ∙ h.marks_len;
    few = g.few;
    state = g.state ∙ ap (visit_row f l w x budget row n) h.state ∙ ap (λ (j : ℕ). visit_row f l w x budget row j (visit_rows f l w x budget row k)) e ∙ sym (rows_more row k);
  }
