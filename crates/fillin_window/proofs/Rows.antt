-- A layer that is opened, whose first piece is worked, that is run to its end and closed row by row: each output is its row's dot in one go. Assumes nothing.
use Prim.{Unit}
use Prim.Native.Nat.{ℕ, ◌+◌, ◌-◌, ◌*◌, ◌≤◌, ◌<◌, min}
use mathlib.Core.Path.{◌≡◌, refl, sym, ap, ◌∙◌}
use mathlib.Core.Bool.{not}
use mathlib.Core.List.{List, [], ◌∷◌, ◌++◌, Memᴰ}
use native.Mathlib.Nat.{le_refl, le_trans, mul-le-mul_left, mul-one, min-eq_right}
use native.Mathlib.Omega.{arith}
use borrow.Author.Tests.{le-ltb, lt-leb, eq-eqb}
use lib.ListN.{length, take, drop, get_or, set}
use lib.Seq.{take-add, get_or-set_same}
use lib.Ieee.{Float, nan}
use Rattle.refusals.specs.declared.refusal.Refusal.{Refusal}
use Rattle.refusals.specs.Said.{Said, done}
use Rattle.refusals.specs.Sizes.{most_in, most_out}
use Rattle.refusals.proofs.Laws.{apart, given_no, else_later}
use Rattle.std.proofs.Common.{Ok, Err}
use Rattle.memory.specs.Lists.{table, filled}
use Rattle.memory.proofs.Filled.{table_ext, length_table}
use Rattle.layers_shape.specs.Shapes.{weight_bytes}
use Rattle.stepped_shape.specs.declared.shape.Layer.{Layer}
use Rattle.stepped_shape.specs.Layer.{Memory, chunks, pieces, open_count, open_of, open_in_row}
use Rattle.stepped_shape.specs.Refusals.{shape_refusal, room_refusal, open_refusal, work_refusal, close_refusal}
use Rattle.stepped_shape.proofs.Shapes.{row_within}
use Rattle.stepped_shape.proofs.Says.{known_value, known_said}
use Rattle.stepped_shape.proofs.Marks.{open_append}
use Rattle.stepped_pieces.specs.Pieces.{row_met, piece_says}
use Rattle.stepped_shape.specs.declared.progress.Progress.{Progress}
use Rattle.stepped_shape.specs.Progress.{ran}
use Rattle.stepped.specs.Says.{run_work, open_says, run_says, close_says}
use Rattle.stepped_history.specs.History.{in_one_go, piece, run, close, closed_by, call, calls, opened}
use Rattle.stepped.proofs.Counts.{run_counts}
use Rattle.stepped_history.proofs.History.{demand3}
use Rattle.fillin_window.specs.Windows.{Sound, outputs_of}
use Rattle.fillin_window.specs.Inner.{Run}

-- no piece of the layer is open: none of a row is
none_in_row : (l : Layer) (marks : List ℕ) (row : ℕ) → row < l.out_feat → open_of l marks ≡ 0 → open_in_row l marks row ≡ 0
unfolding open_of open_in_row
none_in_row l marks row h z =
    let n = chunks l in
    let a = row * n in
    let rest = pieces l - a - n in
    let e : a + (n + rest) ≡ pieces l = omega (arith, row_within l row h) in
    let whole : open_count (take (a + (n + rest)) marks) ≡ 0 = ap (λ (k : ℕ). open_count (take k marks)) e ∙ z in
    let front = open_append (take a marks) (take (n + rest) (drop a marks)) in
    let back = open_append (take n (drop a marks)) (take rest (drop n (drop a marks))) in
    let one = ap open_count (take-add a (n + rest) marks) in
    let two = ap open_count (take-add n rest (drop a marks)) in
    omega (arith, whole, front, back, one, two)

-- a layer that is run to its end: a row is closed
pub closes : (l : Layer) (m : Memory) (y : List Float) (row : ℕ) → Run l m → l.out_feat ≤ length y → row < l.out_feat → close_says l row m y ≡ (done, set y row (row_met l m.slots row))
unfolding close_says close_refusal
closes l m y row r room inside =
    known_value _ _ _ r.named _
    (else_later _ _ r.openable
    ∙ given_no _ _ _ (le-ltb _ _ room)
    ∙ given_no _ _ _ (lt-leb _ _ inside)
    ∙ given_no _ _ _ (simp (eq-eqb _ _ (none_in_row l m.marks row inside r.all_done))))

-- what such a close says and leaves
pub closing : {r : Said (Unit {0})} {after : List Float} (l : Layer) (m : Memory) (y : List Float) (row : ℕ) → Run l m → l.out_feat ≤ length y → row < l.out_feat
    → (r, after) ≡ close_says l row m y → (r ≡ done) × (after ≡ set y row (row_met l m.slots row))
closing l m y row r room inside e =
    let p = e ∙ closes l m y row r room inside in
    (ap (λ (q : Said (Unit {0}) × List Float). q.0) p, ap (λ (q : Said (Unit {0}) × List Float). q.1) p)

-- ---- the stepped layer does not refuse a layer of a layer record

module _ (l : Layer) (weights : ℕ) (s : Sound l weights) where
  shape : shape_refusal l ≡ done
  unfolding shape_refusal
  shape =
      given_no _ _ _ (le-ltb most_in l.in_feat (omega (arith, s.inputs)))
      ∙ given_no _ _ _ (le-ltb most_out l.out_feat (omega (arith, s.outputs)))
      ∙ given_no _ _ _ (ap not (eq-eqb _ _ s.blocks))

  -- it has one chunk a row, and at most 16 pieces
  few : pieces l ≤ 16
  unfolding pieces chunks
  few =
      let one : chunks l ≤ 1 = omega (arith, s.inputs) in
      le_trans (mul-le-mul_left l.out_feat one) (rw mul-one s.outputs)

  roomy : room_refusal l 16 16 ≡ done
  unfolding room_refusal
  roomy = given_no _ _ _ (le-ltb _ _ few) ∙ given_no _ _ _ (le-ltb _ _ few)

  opens : open_refusal l 16 16 ≡ done
  unfolding open_refusal
  opens = else_later _ _ shape ∙ roomy

  works : work_refusal s.known l weights l.in_feat 16 16 ≡ done
  unfolding work_refusal
  works =
      let enough : weight_bytes s.known l.in_feat l.out_feat ≤ weights = omega (arith, s.weighed) in
      else_later _ _ shape
      ∙ given_no _ _ _ (le-ltb _ _ enough)
      ∙ given_no _ _ _ (le-ltb _ _ (le_refl l.in_feat))
      ∙ roomy

-- ---- opened, then the first piece, then a run with a budget for every piece

-- what open said and left, and what run did behind the first piece: neither refused, every piece is done, and each row
-- meets in its dot in one go
pub record Worked (l : Layer) (w : List ℕ) (x : List Float) (o : Said (Unit {0}) × Memory) (r : Said Progress × Memory) : Type 0 where
  pub opened_done : o.0 ≡ done
  pub not_refused : (why : Refusal) → r.0 ≡ Err why → ⊥
  pub runs_out : Run l r.1
  pub dots : (y : List Float) → filled (row_met l r.1.slots) y l.out_feat ≡ outputs_of l w x ++ drop l.out_feat y

-- memory with 16 slots and 16 marks
abbrev pub Sixteen : Memory → Type 0
Sixteen m = (length m.slots ≡ 16) × (length m.marks ≡ 16)

module _ (l : Layer) (w : List ℕ) (x : List Float) (s : Sound l (length w)) (long : length x ≡ l.in_feat) (m : Memory) (room : Sixteen m) where
  pub open_done : (open_says l m).0 ≡ done
  unfolding open_says
  open_done = known_said _ _ _ s.named ∙ rw (room.0, room.1) (opens l (length w) s)

  -- what open, piece and run leave
  abbrev after_open : Memory
  after_open = (open_says l m).1

  abbrev after_piece : Memory
  after_piece = (piece_says l w x 0 0 after_open).1

  abbrev after_run : Memory
  after_run = (run_says l w x 16 after_piece).1

  module _ (kept : Sixteen after_piece) where
    -- run does not refuse: what it says and leaves
    runs : run_says l w x 16 after_piece ≡ (Ok (ran (min 16 (open_of l after_piece.marks)) (open_of l (run_work s.known l w x 16 after_piece).holds.marks)), (run_work s.known l w x 16 after_piece).holds)
    unfolding run_says
    runs = known_value _ _ _ s.named _ (else_later _ _ (rw (long, kept.0, kept.1) (works l (length w) s)))

    -- no more pieces than there are are open before the run, and none is after it
    none_open : open_of l after_run.marks ≡ 0
    unfolding calls call opened
    none_open =
        let before = (demand3 s.known l w x s.named m [] open_done (piece 0 0 ∷ [])).counted in
        let pieces_few = few l (length w) s in
        let r = run_counts s.known l w x 16 after_piece (rw kept.1 pieces_few) in
        let all = r.did ∙ min-eq_right (omega arith) in
        ap (λ (p : Said Progress × Memory). open_of l p.1.marks) runs ∙ omega (arith, r.left, all)

    module _ (left : Sixteen after_run) where
      run_out : Run l after_run
      run_out = record { known = s.known; named = s.named; openable = rw (left.0, left.1) (opens l (length w) s); all_done = none_open }

      -- each row meets in its dot in one go
      row_met_lem : (row : ℕ) → row < l.out_feat → row_met l after_run.slots row ≡ in_one_go s.known l w x row
      unfolding calls call opened
      row_met_lem row h =
          let y = table (λ (i : ℕ). nan) l.out_feat in
          let met = row_met l after_run.slots row in
          let e = closes l after_run y row run_out (rw length_table (le_refl _)) h in
          let told : (close_says l row after_run y).0 ≡ done = ap (λ (p : Said (Unit {0}) × List Float). p.0) e in
          let closed : Memᴰ row (closed_by (close_says l row after_run y).0 row []) = rw told (mathlib.Core.List.Memᴰ.head refl) in
          sym (get_or-set_same y row met nan (rw length_table h))
          ∙ ap (λ (p : Said (Unit {0}) × List Float). get_or p.1 row nan) (sym e)
          ∙ (demand3 s.known l w x s.named m y open_done (piece 0 0 ∷ run 16 ∷ close row ∷ [])).rows row closed

      met : (y : List Float) → filled (row_met l after_run.slots) y l.out_feat ≡ outputs_of l w x ++ drop l.out_feat y
      met y = rw s.named (ap (λ (ys : List Float). ys ++ drop l.out_feat y) (table_ext _ _ l.out_feat row_met_lem))

  -- each call keeps the lengths of what it is lent
  abbrev WorkedAsLong : Said (Unit {0}) × Memory → Memory → Said Progress × Memory → Type 0
  WorkedAsLong o p r = Sixteen p → Sixteen r.1 → Worked l w x o r

  pub worked : (o p : Said (Unit {0}) × Memory) → o ≡ open_says l m → p ≡ piece_says l w x 0 0 o.1 → (r : Said Progress × Memory) → r ≡ run_says l w x 16 p.1 → WorkedAsLong o p.1 r
  worked o p e e' r e'' =
      let piece_left : p ≡ piece_says l w x 0 0 after_open = e' ∙ ap (λ (q : Said (Unit {0}) × Memory). piece_says l w x 0 0 q.1) e in
      let run_left : r ≡ run_says l w x 16 after_piece = e'' ∙ ap (λ (q : Said (Unit {0}) × Memory). run_says l w x 16 q.1) piece_left in
      rw (e, piece_left, run_left) itself
    where
      itself : WorkedAsLong (open_says l m) after_piece (run_says l w x 16 after_piece)
      itself a b =
          record {
            opened_done = open_done;
            not_refused = λ why z. apart why _ (sym z ∙ ap (λ (q : Said Progress × Memory). q.0) (runs a));
            runs_out = run_out a b;
            dots = met a b;
          }
