-- `rows::meet` meets its contract: after c chunks the copy has their slots. Assumes nothing.
use native.Mathlib.Nat.{add-zero}
use native.Mathlib.Omega.{arith}
use mathlib.Core.Path.{◌≡◌, refl, sym, ap, ◌∙◌}
use mathlib.Core.List.{List}
use Prim.Native.Nat.{ℕ, ◌≤◌, ◌<◌, ◌+◌, ◌*◌}
use lib.ListN.{length, get_or, take, drop}
use lib.Seq.{take_at, length-take-le}
use lib.Ieee.{Float, nan}
use Rattle.memory.specs.Lists.{table, filled}
use Rattle.memory.proofs.Filled.{length_table, filling_start, filling_more}
use Rattle.sums_tree.specs.Tree.{pair_up, met, tree}
use Rattle.stepped_shape.specs.Layer.{chunks, pieces, place}
use Rattle.stepped_shape.proofs.Shapes.{row_within, few_chunks, few_pieces}
use Rattle.stepped_pieces.specs.Pieces.{row_met}
use Rattle.refusals.specs.Said.{done}
use Rattle.stepped_shape.specs.declared.shape.Layer.{Layer}
use Rattle.stepped_shape.specs.Refusals.{shape_refusal}
use Rattle.stepped_pieces.proofs.rows.meet.Goals as goal

-- the row's slots lie within the layer's, and there are 16 at most
row_in : (l : Layer) (row n room : ℕ) → n ≡ chunks l → shape_refusal l ≡ done → row < l.out_feat → pieces l ≤ room
    → (row * n + n ≤ room) × (n ≤ 16) × (pieces l ≤ 1048576)
row_in l row n room e shape inside enough =
    let r : row * n + n ≤ pieces l = simp e (row_within l row inside) in
    (omega (arith, r, enough), omega (arith, e, few_chunks l shape), few_pieces l shape)

pub overflow_mul-at : goal.overflow_mul-at
overflow_mul-at c = omega (arith, row_in _ _ _ _ c.chunks_of-n.ensures c.requires.0 c.requires.1 c.requires.2)

pub offset_bounds-slots-at : goal.offset_bounds-slots-at
offset_bounds-slots-at c = omega (arith, row_in _ _ _ _ c.chunks_of-n.ensures c.requires.0 c.requires.1 c.requires.2)

pub bounds-slots-at : goal.bounds-slots-at
bounds-slots-at c = omega (arith, row_in _ _ _ _ c.chunks_of-n.ensures c.requires.0 c.requires.1 c.requires.2)

-- one value is its own tree
tree_of_one : (f : ℕ → Float) (n : ℕ) → n ≡ 1 → tree (table f n) ≡ f 0
unfolding tree met pair_up table
tree_of_one f n e = rw e refl

-- the front of a list that is filled so far
filled_front : (f : ℕ → Float) (xs ys : List Float) (i n : ℕ) → i ≡ n → ys ≡ filled f xs i → take n ys ≡ table f n
filled_front f xs ys i n e h = ap (take n) (h ∙ ap (filled f xs) e) ∙ take_at (table f n) (drop n xs) n (length_table f n)

pub returns-then-n-eq1 : goal.returns-then-n-eq1
unfolding row_met place
returns-then-n-eq1 c =
    let a = c.args in
    let n = c.chunks_of-n in
    sym
    (tree_of_one (λ i. get_or a.slots.now (a.row * chunks a.l + i) nan) (chunks a.l) (sym n.ensures ∙ c.if-n-eq1.true)
    ∙ ap (λ (i : ℕ). get_or a.slots.now i nan) (add-zero (a.row * chunks a.l) ∙ ap (λ (m : ℕ). a.row * m) (sym n.ensures)))

pub loop-c-init : goal.loop-c-init
loop-c-init c = filling_start _ _ 16 refl

pub overflow_add-sums : goal.overflow_add-sums
overflow_add-sums c = omega (arith, row_in _ _ _ _ c.chunks_of-n.ensures c.requires.0 c.requires.1 c.requires.2)

pub offset_bounds-slots-at-in-loop-c : goal.offset_bounds-slots-at-in-loop-c
offset_bounds-slots-at-in-loop-c c = omega (arith, row_in _ _ _ _ c.chunks_of-n.ensures c.requires.0 c.requires.1 c.requires.2)

pub bounds-slots-at-in-loop-c : goal.bounds-slots-at-in-loop-c
bounds-slots-at-in-loop-c c = omega (arith, row_in _ _ _ _ c.chunks_of-n.ensures c.requires.0 c.requires.1 c.requires.2)

pub offset_bounds-sums-c : goal.offset_bounds-sums-c
offset_bounds-sums-c c = omega (arith, row_in _ _ _ _ c.chunks_of-n.ensures c.requires.0 c.requires.1 c.requires.2)

pub bounds-sums-c : goal.bounds-sums-c
bounds-sums-c c = omega (arith, row_in _ _ _ _ c.chunks_of-n.ensures c.requires.0 c.requires.1 c.requires.2)

pub loop-c-preserved : goal.loop-c-preserved
loop-c-preserved c = filling_more _ _ 16 c.loop-c.sums c.loop-c.c _ refl c.loop-c.invariant (omega (arith, row_in _ _ _ _ c.chunks_of-n.ensures c.requires.0 c.requires.1 c.requires.2)) refl

pub slice_bounds-sums-end : goal.slice_bounds-sums-end
slice_bounds-sums-end c = omega (arith, row_in _ _ _ _ c.chunks_of-n.ensures c.requires.0 c.requires.1 c.requires.2, c.loop-c.invariant.2)

pub slice_bounds-canonical_combine-end : goal.slice_bounds-canonical_combine-end
slice_bounds-canonical_combine-end c =
    let room : c.chunks_of-n.result ≤ length c.loop-c.sums = omega (arith, row_in _ _ _ _ c.chunks_of-n.ensures c.requires.0 c.requires.1 c.requires.2, c.loop-c.invariant.2) in
    sym (length-take-le _ _ room)

pub returns : goal.returns
unfolding row_met place
returns c =
    let a = c.args in
    ap (λ (p : Float × List Float). p.0) c.canonical_combine.ensures
    ∙ ap tree (filled_front _ _ c.loop-c.sums c.loop-c.c c.chunks_of-n.result (omega arith) c.loop-c.invariant.0)
    ∙ ap (λ (m : ℕ). tree (table (λ i. get_or a.slots.now (a.row * m + i) nan) m)) c.chunks_of-n.ensures
