-- `cpu::all_columns` meets its contract: a row of weights is decoded, and its column filled, a turn. Assumes nothing.
use mathlib.Core.Path.{◌≡◌, refl, sym, ap, ◌∙◌}
use mathlib.Core.List.{List, ◌++◌}
use Prim.Native.Nat.{ℕ, ◌<◌, ◌+◌, ◌-◌, ◌*◌, ◌≤◌}
use mathlib.Core.Bool.{Bool, cond}
use native.Mathlib.Nat.{zero-mul, le_refl, le_antisymm, le_of_eq}
use native.Mathlib.Omega.{arith}
use borrow.Author.Tests.{eq-eqb}
use lib.ListN.{length, take, drop, length-append, length-drop}
use lib.Seq.{length-take-le, take_at}
use lib.Ieee.{Float}
use Rattle.refusals.specs.Said.{done}
use Rattle.refusals.proofs.Laws.{carried_value, never_refused}
use Rattle.memory.specs.Lists.{table, filled}
use Rattle.memory.proofs.Filled.{length_table, filled_none}
use Rattle.memory.proofs.Parts.{within}
use Rattle.layouts.specs.declared.format.Format.{Format}
use Rattle.sums_lanes.specs.Lanes.{products}
use Rattle.sums.specs.Rows.{row_sum}
use Rattle.layers_shape.specs.Shapes.{reading_row, outputs}
use Rattle.layers_shape.specs.declared.Shape.{Shape}
use Rattle.layers_shape.proofs.Fits.{product_small}
use Rattle.layers_cpu.specs.Says.{row_weight, decoded_dot_at, scratch_after, cpu_says}
use Rattle.layers_cpu.specs.Columns.{column, columns, scratch_of}
use Rattle.layers_cpu.proofs.Columns.{columns_none, columns_more, columns_all, scratch_none, scratch_more, scratch_last}
use Rattle.layouts.specs.Weights.{values_of}
use Rattle.layers_cpu_checks.specs.Refusals.{cpu_refusal}
use Rattle.layers_cpu_checks.proofs.CpuFits.{cpu_fits}
use Rattle.layers_cpu.proofs.cpu.all_columns.Goals as goal

both : {A B C : Type 0} (a : A) {x y : B} {u v : C} → x ≡ y → u ≡ v → ◌≡◌ {A = A × (B × C)} (a, (x, u)) (a, (y, v))
both a p q = rw (p, q)

pub returns-then-s-eq0 : goal.returns-then-s-eq0
unfolding cpu_says outputs scratch_after
returns-then-s-eq0 c =
    let a = c.args in
    let s = a.s in
    let nothing : s.batch * s.out_feat ≡ 0 = ap (λ (b : ℕ). b * s.out_feat) c.if-s-eq0.true ∙ zero-mul s.out_feat in
    let last = filled (row_weight a.format a.w.now s.in_feat (s.out_feat - 1)) a.scratch.now s.in_feat in
    both done (filled_none _ a.y.now ∙ ap (filled _ a.y.now) (sym nothing)) (sym (ap (λ (b : Bool). cond b a.scratch.now last) (eq-eqb _ _ nothing)))
    ∙ sym (carried_value _ _ _ _ c.requires)

pub loop-o-init : goal.loop-o-init
loop-o-init c = (columns_none _ _ _ _, scratch_none _ _ _ _)

-- what a turn has: row o of n places lies within the weights, and scratch has room for it
turn : (f : Format) (s : Shape) (readings weights places scratch o : ℕ) (now : List Float) → cpu_refusal f s readings weights places scratch ≡ done → o < s.out_feat → length now ≡ scratch
    → (o * s.in_feat + s.in_feat ≤ values_of f weights) × (o * s.in_feat + s.in_feat ≤ 8589934592) × (length (take s.in_feat now) ≡ s.in_feat) × (s.in_feat ≤ length now)
turn f s readings weights places scratch o now ok h same =
    let n = s.in_feat in
    let z = cpu_fits f s readings weights places scratch ok in
    let most = within o n s.out_feat (s.out_feat * n) h (le_refl _) in
    let room : n ≤ length now = omega (arith, z.spare) in (
      within o n s.out_feat (values_of f weights) h (le_of_eq (sym z.weighed)),
      omega (arith, most, product_small s.out_feat n 65536 131072 z.within.out_in z.within.in_in),
      length-take-le n now room,
      room,
    )

pub overflow_mul-o : goal.overflow_mul-o
overflow_mul-o c =
    let k = turn _ _ _ _ _ _ _ _ c.requires c.loop-o-test.true c.loop-o.auto.scratch in
    omega (arith, k.1)

pub slice_bounds-decode_row-end : goal.slice_bounds-decode_row-end
slice_bounds-decode_row-end c = (turn _ _ _ _ _ _ _ _ c.requires c.loop-o-test.true c.loop-o.auto.scratch).3

pub slice_bounds-decode_row-end-in-loop-o : goal.slice_bounds-decode_row-end-in-loop-o
slice_bounds-decode_row-end-in-loop-o c =
    let k = turn _ _ _ _ _ _ _ _ c.requires c.loop-o-test.true c.loop-o.auto.scratch in
    sym k.2

pub decode_row-requires : goal.decode_row-requires
decode_row-requires c =
    let k = turn _ _ _ _ _ _ _ _ c.requires c.loop-o-test.true c.loop-o.auto.scratch in
    rw k.2 (omega (arith, k.0), omega (arith, k.1))

-- row o, which a turn decodes
abbrev decoded : Format → List ℕ → ℕ → ℕ → ℕ → Float
decoded format w n o = row_weight format w n o

-- what scratch has at its front then
row_is : (row : ℕ → Float) (made rest : List Float) (n : ℕ) → made ≡ table row n → take n (made ++ rest) ≡ table row n
row_is row made rest n e = take_at made rest n (ap length e ∙ length_table row n) ∙ e

-- .. which is as long as it was
whole : (row : ℕ → Float) (made now : List Float) (n : ℕ) → made ≡ table row n → n ≤ length now → length (made ++ drop n now) ≡ length now
whole row made now n e room =
    let long : length made ≡ n = ap length e ∙ length_table row n in
    simp (length-append, length-drop) (omega (arith, long, room))

pub slice_bounds-fill_column-end : goal.slice_bounds-fill_column-end
slice_bounds-fill_column-end c =
    let k = turn _ _ _ _ _ _ _ _ c.requires c.loop-o-test.true c.loop-o.auto.scratch in
    let a = c.args in
    let n = a.s.in_feat in
    let l = c.loop-o in
    let row = decoded a.format a.w.now n l.o in
    let made : c.decode_row.new.out ≡ table row n = c.decode_row.ensures ∙ ap (table row) k.2 in
    omega (arith, whole row _ l.scratch n made k.3, k.3)

pub slice_bounds-fill_column-end-in-loop-o : goal.slice_bounds-fill_column-end-in-loop-o
slice_bounds-fill_column-end-in-loop-o c =
    let k = turn _ _ _ _ _ _ _ _ c.requires c.loop-o-test.true c.loop-o.auto.scratch in
    let a = c.args in
    let n = a.s.in_feat in
    let l = c.loop-o in
    let row = decoded a.format a.w.now n l.o in
    let made : c.decode_row.new.out ≡ table row n = c.decode_row.ensures ∙ ap (table row) k.2 in
    sym (ap length (row_is row _ (drop n l.scratch) n made) ∙ length_table row n)

pub fill_column-requires : goal.fill_column-requires
fill_column-requires c =
    let k = turn _ _ _ _ _ _ _ _ c.requires c.loop-o-test.true c.loop-o.auto.scratch in
    let f = cpu_fits _ _ _ _ _ _ c.requires in
    let a = c.args in
    let n = a.s.in_feat in
    let l = c.loop-o in
    let row = decoded a.format a.w.now n l.o in
    let made : c.decode_row.new.out ≡ table row n = c.decode_row.ensures ∙ ap (table row) k.2 in
    record {
      batch_le_most_batch = (f.within.batch_in, f.within.in_in, f.within.out_in, c.loop-o-test.true);
      in_feat_in_bounds = (
        le_of_eq (sym f.read),
        ap length (row_is row _ (drop n l.scratch) n made) ∙ length_table row n,
        le_of_eq (sym (l.auto.y ∙ f.room)),
      );
    }

pub returns-in_err-fill_column : goal.returns-in_err-fill_column
returns-in_err-fill_column c = absurd (never_refused refl c.in_err-fill_column.ensures.0)

pub loop-o-preserved : goal.loop-o-preserved
loop-o-preserved c =
    let k = turn _ _ _ _ _ _ _ _ c.requires c.loop-o-test.true c.loop-o.auto.scratch in
    let a = c.args in
    let n = a.s.in_feat in
    let l = c.loop-o in
    let row = decoded a.format a.w.now n l.o in
    let made : c.decode_row.new.out ≡ table row n = c.decode_row.ensures ∙ ap (table row) k.2 in
    let outs = a.s.out_feat in
    let v : ℕ → ℕ → Float = λ b r. decoded_dot_at a.format (reading_row a.x.now a.s b) a.w.now n r in
    let by : List Float → List Float = λ row. column (λ b. row_sum (products (reading_row a.x.now a.s b) row) n) outs l.o l.y a.s.batch in
    let filled_up : c.fill_column.new.y ≡ columns v a.s.batch outs a.y.now (l.o + 1) =
    c.in_ok-fill_column.ensures.1 ∙ ap by (row_is row _ (drop n l.scratch) n made) ∙ ap (λ (ys : List Float). column (λ b. v b l.o) outs l.o ys a.s.batch) l.invariant.0 ∙ columns_more v a.s.batch outs a.y.now l.o in (
      filled_up,
      scratch_more a.format a.w.now n a.scratch.now l.o l.scratch _ l.invariant.1 made,
    )

pub returns : goal.returns
unfolding cpu_says outputs scratch_after
returns c =
    let a = c.args in
    let s = a.s in
    let n = s.in_feat in
    let l = c.loop-o in
    let f = cpu_fits c.args.format c.args.s _ _ _ _ c.requires in
    let last : l.o ≡ s.out_feat = le_antisymm l.auto.o-end c.loop-o-test.false in
    let v : ℕ → ℕ → Float = λ b r. decoded_dot_at a.format (reading_row a.x.now s b) a.w.now n r in
    both done
    (l.invariant.0 ∙ ap (columns v s.batch s.out_feat a.y.now) last ∙ columns_all v s.batch s.out_feat a.y.now (le_of_eq (sym f.room)))
    (l.invariant.1 ∙ ap (scratch_of a.format a.w.now n a.scratch.now) last ∙ scratch_last a.format a.w.now n a.scratch.now s.batch s.out_feat c.if-s-eq0.false)
    ∙ sym (carried_value _ _ _ _ c.requires)
