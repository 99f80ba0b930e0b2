-- Demand 3: after any calls, each closed row has the bits of its dot in one go, and pieces accepted plus pieces open is the layer's piece count. Assumes nothing.
use Prim.{Unit}
use Prim.Native.Nat.{ℕ, zero, suc, ◌*◌, ◌≤◌, ◌<◌, min}
use mathlib.Core.Path.{◌≡◌, refl, sym, ap, ◌∙◌}
use mathlib.Core.Logic.{⊎_elim}
use mathlib.Core.List.Memᴰ
use mathlib.Core.List.{List, [], ◌∷◌, Memᴰ}
use native.Mathlib.Omega.{arith}
use native.Mathlib.Nat.{suc-mul, mul-le-mul_right, le_refl}
use native.Mathlib.Decide.{dec_lt, ℕ_discrete}
use lib.ListN.{length, get_or, drop, set, length-set, length-take, length-drop, get_or-append}
use lib.Seq.{get_or-set_same, get_or-set_other, take_at}
use lib.Ieee.{Float, nan}
use Rattle.refusals.specs.Said.{Said, done}
use Rattle.refusals.proofs.Laws.{else_first, else_later}
use Rattle.std.proofs.Common.{Ok, Err}
use Rattle.memory.specs.Lists.{table, filled, part}
use Rattle.memory.proofs.Filled.{length_table, get_or_table, table_ext, length_filled, part_at}
use Rattle.layouts.specs.Formats.{format_named}
use Rattle.layouts.specs.Weights.{weight_at}
use Rattle.layouts.specs.declared.format.FormatK.{FormatK}
use Rattle.layouts.specs.declared.format.Format.TheVariants.{OfK}
use Rattle.sums_tree.specs.Tree.{tree}
use Rattle.sums.specs.Rows.{row_sum}
use Rattle.dots_fused.proofs.Decoded.{row_decoded}
use Rattle.layers_shape.specs.Shapes.{weight_row}
use Rattle.stepped_shape.specs.declared.shape.Layer.{Layer}
use Rattle.stepped_shape.specs.Layer.{Memory, memory, chunks, pieces, place, open_count, open_of, open_in_row}
use Rattle.stepped_shape.specs.Refusals.{open_refusal, work_refusal, piece_refusal, close_refusal}
use Rattle.stepped_shape.specs.Inner.{InLayer}
use Rattle.stepped_shape.proofs.Shapes.{place_within, row_within, openable, pieceable, closable}
use Rattle.stepped_shape.proofs.Marks.{open_append, open_set_take, none_open}
use Rattle.stepped_shape.proofs.Says.{known_value, known_refused, known_said}
use Rattle.stepped_pieces.specs.Pieces.{sum_at, worked, row_met, piece_says}
use Rattle.stepped_shape.specs.Progress.{ran}
use Rattle.stepped.specs.Says.{no_sum, no_mark, Work, work, visit, visit_row, visit_rows, run_work, open_says, run_says, close_says}
use Rattle.stepped_history.specs.History.{decoded_row, in_one_go, Call, piece, run, close, HistoryState, call, calls, opened, Demand3}
use Rattle.stepped.proofs.Runs.{visit_open, visit_done, visit_over}
use Rattle.stepped.proofs.Counts.{run_counts}

-- ---- two pieces at one place are one piece

row_le : (l : Layer) (r c r' c' : ℕ) → c < chunks l → place l r c ≡ place l r' c' → r' ≤ r
unfolding place
row_le l r c r' c' h e = go (dec_lt r r')
  where
    go : Dec (r < r') → r' ≤ r
    go (yes f) = absurd (omega (arith, suc-mul r (chunks l), mul-le-mul_right (chunks l) f))
    go (no f) = omega arith

same_row : (l : Layer) (r c r' c' : ℕ) → c < chunks l → c' < chunks l → place l r c ≡ place l r' c' → r ≡ r'
same_row l r c r' c' h h' e = omega (arith, row_le l r c r' c' h e, row_le l r' c' r c h' (sym e))

same_chunk : (l : Layer) (r c r' c' : ℕ) → r ≡ r' → place l r c ≡ place l r' c' → c ≡ c'
unfolding place
same_chunk l r c r' c' g e =
    let m : r * chunks l ≡ r' * chunks l = ap (λ (k : ℕ). k * chunks l) g in
    omega arith

-- ---- cleared marks are open

all_open : (n : ℕ) → open_count (table no_mark n) ≡ n
unfolding open_count table
all_open zero = refl
all_open (suc n) = open_append (table no_mark n) (0 ∷ []) ∙ omega (arith, all_open n)

-- ---- a row whose slots are its chunk sums meets in its dot in one go

row_of_sums : (f : FormatK) (l : Layer) (w : List ℕ) (x : List Float) (row : ℕ) → tree (table (sum_at f l w x row) (chunks l)) ≡ in_one_go f l w x row
unfolding sum_at chunks row_sum in_one_go decoded_row
row_of_sums f l w x row =
    let n = l.in_feat in
    let bytes = weight_row f w n row in
    let weights = weight_at (OfK f) bytes in
    row_decoded f x bytes n (table weights n) (rw length_table (le_refl n), λ i u. get_or_table weights n i nan u)

module _ (f : FormatK) (l : Layer) (w : List ℕ) (x : List Float) where
  -- slots and marks fit the layer, and the slot of a piece that is done has its chunk's sum
  record Summed (m : Memory) : Type 0 where
    pub slots_fit : pieces l ≤ length m.slots
    pub marks_fit : pieces l ≤ length m.marks
    pub sums : (row c : ℕ) → InLayer l row c → (get_or m.marks (place l row c) 0 ≡ 0 → ⊥) → get_or m.slots (place l row c) nan ≡ sum_at f l w x row c

  -- one piece worked
  sums_work : (row c : ℕ) (m : Memory) → InLayer l row c → Summed m → Summed (worked f l w x row c m)
  sums_work row c m i h = record {
    slots_fit = simp length-set h.slots_fit;
    marks_fit = simp length-set h.marks_fit;
    sums = λ r k j z. at r k j z (ℕ_discrete (place l r k) (place l row c));
  }
    where
      at : (r k : ℕ) → InLayer l r k → (get_or (worked f l w x row c m).marks (place l r k) 0 ≡ 0 → ⊥) → Dec (place l r k ≡ place l row c)
          → get_or (worked f l w x row c m).slots (place l r k) nan ≡ sum_at f l w x r k
      at r k j z (yes e) =
          let in_slots : place l row c < length m.slots = omega (arith, place_within l row c i, h.slots_fit) in
          let er = same_row l r k row c j.chunk_in i.chunk_in e in
          let ek = same_chunk l r k row c er e in
          simp (er, ek) (get_or-set_same m.slots (place l row c) (sum_at f l w x row c) nan in_slots)
      at r k j z (no e) =
          get_or-set_other m.slots (place l row c) (place l r k) (sum_at f l w x row c) nan e
          ∙ h.sums r k j (λ q. z (get_or-set_other m.marks (place l row c) (place l r k) 1 0 e ∙ q))

  -- a run keeps it, visit by visit
  module _ (budget : ℕ) where
    sums_visit : (row c : ℕ) (k : Work) → InLayer l row c → Summed k.holds → Dec (k.done < budget) → Dec (get_or k.holds.marks (place l row c) 0 ≡ 0)
        → Summed (visit f l w x budget row c k).holds
    sums_visit row c k i h (yes u) (yes z) = rw (visit_open f l w x budget row c k u z) (sums_work row c k.holds i h)
    sums_visit row c k i h (yes u) (no z) = rw (visit_done f l w x budget row c k u z) h
    sums_visit row c k i h (no u) e = let g : budget ≤ k.done = omega arith in rw (visit_over f l w x budget row c k g) h

    sums_row : (row n : ℕ) (k : Work) → row < l.out_feat → n ≤ chunks l → Summed k.holds → Summed (visit_row f l w x budget row n k).holds
    unfolding visit_row
    sums_row row zero k hr hn h = h
    sums_row row (suc n) k hr hn h =
        sums_visit row n (visit_row f l w x budget row n k) (record { row_in = hr; chunk_in = omega arith }) (sums_row row n k hr (omega arith) h) (dec_lt _ _) (ℕ_discrete _ _)

    sums_rows : (n : ℕ) (k : Work) → n ≤ l.out_feat → Summed k.holds → Summed (visit_rows f l w x budget n k).holds
    unfolding visit_rows
    sums_rows zero k hn h = h
    sums_rows (suc n) k hn h =
        sums_row n (chunks l) (visit_rows f l w x budget n k) (omega arith) (omega arith) (sums_rows n k (omega arith) h)

    sums_run : (m : Memory) → Summed m → Summed (run_work f l w x budget m).holds
    unfolding run_work
    sums_run m h = sums_rows l.out_feat (work m 0) (omega arith) h

  -- a row with no piece open meets in its dot
  row_done : (m : List ℕ) (row c : ℕ) → pieces l ≤ length m → row < l.out_feat → c < chunks l → open_in_row l m row ≡ 0 → get_or m (place l row c) 0 ≡ 0 → ⊥
  unfolding open_in_row place
  row_done m row c fit hr hc e z =
      let n = chunks l in
      let in_part : c < length (part m (row * n) n) = rw (length-take, length-drop) (omega (arith, row_within l row hr)) in
      none_open (part m (row * n) n) c e in_part (part_at m (row * n) n c 0 hc ∙ z)

  row_met_lem : (m : Memory) (row : ℕ) → row < l.out_feat → Summed m → open_in_row l m.marks row ≡ 0 → row_met l m.slots row ≡ in_one_go f l w x row
  unfolding row_met
  row_met_lem m row hr h e =
      ap tree (table_ext _ (sum_at f l w x row) (chunks l) (λ c hc. h.sums row c (record { row_in = hr; chunk_in = hc }) (row_done m.marks row c h.marks_fit hr hc e)))
      ∙ row_of_sums f l w x row

  -- what every call keeps
  record Good (s : HistoryState) : Type 0 where
    pub summed : Summed s.holds
    pub demand : Demand3 f l w x s

  module _ (named : format_named l.format ≡ Ok f) where
    -- ---- piece

    good_piece : (s : HistoryState) (row c : ℕ) → Good s → (r : Said (Unit {0}))
        → piece_refusal f l (length w) (length x) (length s.holds.slots) s.holds.marks row c ≡ r → Good (call l w x s (piece row c))
    unfolding call piece_says open_of
    good_piece s row c g (Ok tt) z =
        let p = pieceable _ _ _ _ _ _ _ _ z in
        let i = p.inside in
        let m = s.holds in
        let less = open_set_take m.marks (pieces l) (place l row c) (place_within l row c i) (omega (arith, place_within l row c i, g.summed.marks_fit)) p.still_open in
        let e : piece_says l w x row c m ≡ (done, worked f l w x row c m) = known_value _ _ _ named tt z in
        rw e (record {
          summed = sums_work row c m i g.summed;
          demand = record { rows = g.demand.rows; counted = omega (arith, less, g.demand.counted) };
        })
    good_piece s row c g (Err why) z =
        let e : piece_says l w x row c s.holds ≡ (Err why, s.holds) = known_refused _ _ _ named why z in
        rw e (record { summed = g.summed; demand = record { rows = g.demand.rows; counted = omega (arith, g.demand.counted) } })

    -- ---- run

    good_run : (s : HistoryState) (budget : ℕ) → Good s → (r : Said (Unit {0}))
        → work_refusal f l (length w) (length x) (length s.holds.slots) (length s.holds.marks) ≡ r → Good (call l w x s (run budget))
    unfolding call run_says
    good_run s budget g (Ok tt) z =
        let r = run_counts f l w x budget s.holds g.summed.marks_fit in
        let after = (run_work f l w x budget s.holds).holds in
        let e : run_says l w x budget s.holds ≡ (Ok (ran (min budget (open_of l s.holds.marks)) (open_of l after.marks)), after) = known_value _ _ _ named _ (else_later _ _ z) in
        rw e (record {
          summed = sums_run budget s.holds g.summed;
          demand = record { rows = g.demand.rows; counted = omega (arith, r.did, r.left, g.demand.counted) };
        })
    good_run s budget g (Err why) z =
        let e : run_says l w x budget s.holds ≡ (Err why, s.holds) = known_refused _ _ _ named why (else_first _ _ why z) in
        rw e (record { summed = g.summed; demand = record { rows = g.demand.rows; counted = omega (arith, g.demand.counted) } })

    -- ---- close

    close_rows : (s : HistoryState) (row : ℕ) → Good s → close_refusal l (length s.holds.slots) s.holds.marks (length s.outputs) row ≡ done → (r : ℕ) → Memᴰ r (row ∷ s.closed) → Dec (r ≡ row)
        → get_or (set s.outputs row (row_met l s.holds.slots row)) r nan ≡ in_one_go f l w x r
    close_rows s row g z r i (yes e) =
        let ok = closable _ _ _ _ _ z in
        let v = row_met l s.holds.slots row in
        let same : get_or (set s.outputs row v) row nan ≡ v = get_or-set_same s.outputs row v nan (omega (arith, ok.row_in, ok.outputs_enough)) in
        rw e (same ∙ row_met_lem s.holds row ok.row_in g.summed ok.none_open)
    close_rows s row g z r i (no e) =
        get_or-set_other s.outputs row r (row_met l s.holds.slots row) nan e ∙ ⊎_elim (λ q. absurd (e q)) (λ q. g.demand.rows r q) (Memᴰ.cases_cons i)

    good_close : (s : HistoryState) (row : ℕ) → Good s → (r : Said (Unit {0}))
        → close_refusal l (length s.holds.slots) s.holds.marks (length s.outputs) row ≡ r → Good (call l w x s (close row))
    unfolding call close_says
    good_close s row g (Ok tt) z =
        let e : close_says l row s.holds s.outputs ≡ (done, set s.outputs row (row_met l s.holds.slots row)) = known_value _ _ _ named tt z in
        rw e (record { summed = g.summed; demand = record { rows = λ r i. close_rows s row g z r i (ℕ_discrete r row); counted = g.demand.counted } })
    good_close s row g (Err why) z =
        let e : close_says l row s.holds s.outputs ≡ (Err why, s.outputs) = known_refused _ _ _ named why z in
        rw e (record { summed = g.summed; demand = record { rows = g.demand.rows; counted = g.demand.counted } })

    good_call : (s : HistoryState) (c : Call) → Good s → Good (call l w x s c)
    good_call s (piece row c) g = good_piece s row c g _ refl
    good_call s (run budget) g = good_run s budget g _ refl
    good_call s (close row) g = good_close s row g _ refl

    good_calls : (s : HistoryState) (cs : List Call) → Good s → Good (calls l w x s cs)
    unfolding calls
    good_calls s [] g = g
    good_calls s (c ∷ cs) g = good_calls (call l w x s c) cs (good_call s c g)

    -- ---- after an open that was not refused

    good_open : (m : Memory) (outputs : List Float) → open_refusal l (length m.slots) (length m.marks) ≡ done → Good (opened l m outputs)
    unfolding opened open_says open_of
    good_open m outputs z =
        let room = (openable _ _ _ z).has_room in
        let n = pieces l in
        let e : open_says l m ≡ (done, memory (filled no_sum m.slots n) (filled no_mark m.marks n)) = known_value _ _ _ named tt z in
        rw e (record {
          summed = record {
            slots_fit = rw (length_filled no_sum m.slots n room.slots_enough) room.slots_enough;
            marks_fit = rw (length_filled no_mark m.marks n room.marks_enough) room.marks_enough;
            sums = λ row c i h. absurd (h (no_mark_lem (place l row c) (place_within l row c i)));
          };
          demand = record {
            rows = λ r i. absurd (Memᴰ.not-nil i);
            counted = rw (take_at (table no_mark n) (drop n m.marks) n (length_table no_mark n)) (omega (arith, all_open n));
          };
        })
      where
        no_mark_lem : (p : ℕ) → p < pieces l → get_or (filled no_mark m.marks (pieces l)) p 0 ≡ 0
        no_mark_lem p h = get_or-append (table no_mark (pieces l)) (drop (pieces l) m.marks) 0 p (rw length_table h) ∙ get_or_table no_mark (pieces l) p 0 h

-- DEMAND 3
pub demand3 : (f : FormatK) (l : Layer) (w : List ℕ) (x : List Float) → format_named l.format ≡ Ok f → (m : Memory) (outputs : List Float)
    → (open_says l m).0 ≡ done → (cs : List Call) → Demand3 f l w x (calls l w x (opened l m outputs) cs)
unfolding open_says
demand3 f l w x named m outputs h cs = (good_calls f l w x named (opened l m outputs) cs (good_open f l w x named m outputs (sym (known_said _ _ _ named) ∙ h))).demand
