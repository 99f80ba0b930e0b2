-- What a run counts: done is the smaller of the budget and the pieces open before, and the pieces open after are those before less done. Assumes nothing.
use Prim.Native.Nat.{ℕ, zero, suc, ◌+◌, ◌*◌, ◌≤◌, ◌<◌, min}
use mathlib.Core.Path.{◌≡◌, refl, sym, ◌∙◌, ap}
use mathlib.Core.List.{List}
use native.Mathlib.Omega.{arith}
use native.Mathlib.Nat.{suc-mul, zero-mul, add-zero}
use native.Mathlib.Decide.{dec_lt, ℕ_discrete}
use lib.ListN.{length, get_or, take, length-set}
use lib.Seq.{get_or-set_other}
use lib.Ieee.{Float}
use borrow.Author.Tests.{eq-eqb, ne_eqb}
use Rattle.refusals.specs.Said.{done}
use Rattle.refusals.proofs.Laws.{else_later, carried_value}
use Rattle.std.proofs.Common.{Ok}
use Rattle.layouts.specs.Formats.{format_named}
use Rattle.layouts.specs.declared.format.FormatK.{FormatK}
use Rattle.stepped_shape.specs.declared.shape.Layer.{Layer}
use Rattle.stepped_shape.specs.Layer.{Memory, chunks, pieces, place, open_count, open_of}
use Rattle.stepped_shape.specs.Refusals.{work_refusal}
use Rattle.stepped_shape.proofs.Shapes.{workable}
use Rattle.stepped_shape.proofs.Marks.{open_more, open_set_take}
use Rattle.stepped_shape.proofs.Says.{by_known}
use Rattle.stepped_pieces.specs.Pieces.{worked}
use Rattle.stepped_shape.specs.Progress.{ran}
use Rattle.stepped.specs.Says.{Work, work, visit, visit_row, visit_rows, run_work, run_says}
use Rattle.stepped.proofs.Runs.{visit_open, visit_done, visit_over}

module _ (f : FormatK) (l : Layer) (w : List ℕ) (x : List Float) (budget : ℕ) (m : Memory) where
  -- after the first p pieces were visited: the marks ahead are as they were, and so many pieces are done that none is counted twice
  record Counted (p : ℕ) (k : Work) : Type 0 where
    pub len : length k.holds.marks ≡ length m.marks
    pub ahead : (q : ℕ) → p ≤ q → get_or k.holds.marks q 0 ≡ get_or m.marks q 0
    pub did : k.done ≡ min budget (open_count (take p m.marks))
    pub kept : (n : ℕ) → p ≤ n → open_count (take n k.holds.marks) + k.done ≡ open_count (take n m.marks)

  module _ (row c : ℕ) (hp : place l row c < length m.marks) (k : Work) (h : Counted (place l row c) k) where
    -- one piece more is visited
    step_open : k.done < budget → get_or k.holds.marks (place l row c) 0 ≡ 0 → Counted (place l row c + 1) (work (worked f l w x row c k.holds) (k.done + 1))
    step_open u z =
        let p = place l row c in
        let z₀ : get_or m.marks p 0 ≡ 0 = sym (h.ahead p (omega arith)) ∙ z in
        let e = simp (eq-eqb _ _ z₀) at (open_more m.marks p hp) in
        record {
          len = simp length-set h.len;
          ahead = λ q hq. get_or-set_other k.holds.marks p q 1 0 (λ g. omega arith) ∙ h.ahead q (omega arith);
          did = omega (arith, h.did, e);
          kept = λ n hn. omega (arith, h.kept n (omega arith), open_set_take k.holds.marks n p (omega arith) (omega (arith, h.len)) z);
        }

    -- one that is done, and any where the budget is spent
    step_past : k.done ≡ min budget (open_count (take (place l row c + 1) m.marks)) → Counted (place l row c + 1) k
    step_past e = record { len = h.len; ahead = λ q hq. h.ahead q (omega arith); did = e; kept = λ n hn. h.kept n (omega arith) }

    by_cases : Dec (k.done < budget) → Dec (get_or k.holds.marks (place l row c) 0 ≡ 0) → Counted (place l row c + 1) (visit f l w x budget row c k)
    by_cases (yes u) (yes z) = rw (visit_open f l w x budget row c k u z) (step_open u z)
    by_cases (yes u) (no z) =
        let e = simp (ne_eqb _ _ (λ g. z (h.ahead (place l row c) (omega arith) ∙ g))) at (open_more m.marks (place l row c) hp) in
        rw (visit_done f l w x budget row c k u z) (step_past (omega (arith, h.did, e)))
    by_cases (no u) e =
        let g : budget ≤ k.done = omega arith in
        rw (visit_over f l w x budget row c k g) (step_past (omega (arith, h.did, open_more m.marks (place l row c) hp)))

  in_row : (row n : ℕ) (k : Work) → place l row n ≤ length m.marks → Counted (row * chunks l) k → Counted (place l row n) (visit_row f l w x budget row n k)
  unfolding visit_row place
  in_row row zero k hp h = rw add-zero h
  in_row row (suc n) k hp h =
      let e : row * chunks l + suc n ≡ row * chunks l + n + 1 = omega arith in
      let b = visit_row f l w x budget row n k in
      rw e (by_cases row n (omega arith) b (in_row row n k (omega arith) h) (dec_lt b.done budget) (ℕ_discrete (get_or b.holds.marks (row * chunks l + n) 0) 0))

  in_rows : (n : ℕ) (k : Work) → n * chunks l ≤ length m.marks → Counted 0 k → Counted (n * chunks l) (visit_rows f l w x budget n k)
  unfolding visit_rows place
  in_rows zero k hp h = rw zero-mul h
  in_rows (suc n) k hp h =
      let e : suc n * chunks l ≡ n * chunks l + chunks l = suc-mul n (chunks l) in
      rw e (in_row n (chunks l) (visit_rows f l w x budget n k) (omega (arith, e)) (in_rows n k (omega (arith, e)) h))

  none_yet : Counted 0 (work m 0)
  unfolding open_count
  none_yet = record { len = refl; ahead = λ q h. refl; did = omega arith; kept = λ n h. omega arith }

  -- done is the smaller of the budget and the pieces open before; what is left is what was open less done
  pub record RunCounts (k : Work) : Type 0 where
    pub did : k.done ≡ min budget (open_of l m.marks)
    pub left : open_of l k.holds.marks + k.done ≡ open_of l m.marks
    pub len : length k.holds.marks ≡ length m.marks

  pub run_counts : pieces l ≤ length m.marks → RunCounts (run_work f l w x budget m)
  unfolding run_work pieces open_of
  run_counts hp =
      let h = in_rows l.out_feat (work m 0) hp none_yet in
      record { did = h.did; left = h.kept (l.out_feat * chunks l) (omega arith); len = h.len }

  -- what run says where nothing is refused: the loops' work k, and the marks counted after them
  pub run_done : (k : Work) (left : ℕ) → Ok f ≡ format_named l.format
      → work_refusal f l (length w) (length x) (length m.slots) (length m.marks) ≡ done
      → k ≡ run_work f l w x budget m → left ≡ open_of l k.holds.marks
      → (Ok (ran k.done left), k.holds) ≡ run_says l w x budget m
  unfolding run_says
  run_done k left named ok e g =
      let d = ap (λ (u : Work). u.done) e ∙ (run_counts (workable _ _ _ _ _ _ ok).has_room.marks_enough).did in
      (cc) ∙ sym (carried_value _ _ _ _ (else_later _ _ ok)) ∙ by_known _ _ named
