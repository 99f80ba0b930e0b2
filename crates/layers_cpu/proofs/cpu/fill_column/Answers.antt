-- `cpu::fill_column` meets its contract: one row's dot a turn. Assumes nothing.
use mathlib.Core.Path.{◌≡◌, refl, sym, ap, ◌∙◌}
use mathlib.Core.List.{List}
use Prim.Native.Nat.{ℕ, ◌+◌, ◌-◌, ◌*◌, ◌≤◌}
use native.Mathlib.Nat.{le_antisymm, le_of_eq}
use native.Mathlib.Omega.{arith}
use lib.ListN.{length, take, drop, set}
use lib.Ieee.{Float}
use Rattle.std.proofs.Common.{Ok}
use Rattle.refusals.specs.Sizes.{most_in}
use Rattle.refusals.proofs.Laws.{never_refused}
use Rattle.memory.specs.Lists.{part}
use Rattle.memory.proofs.Filled.{part_length}
use Rattle.sums_lanes.specs.Lanes.{products}
use Rattle.sums.specs.Rows.{row_sum}
use Rattle.sums.specs.Says.{dot_says}
use Rattle.sums.proofs.RowLaws.{dot_answers}
use Rattle.layers_cpu.specs.Columns.{column}
use Rattle.layers_cpu.proofs.Columns.{rows_in, column_none, column_more}
use Rattle.layers_cpu.proofs.cpu.fill_column.Goals as goal

pub loop-b-init : goal.loop-b-init
loop-b-init c = column_none _ _ _ _

-- what the dot of row b says, of readings that were lent from its first place on
dot_said : (x row : List Float) (b n : ℕ) → n ≤ most_in → b * n + n ≤ length x → length row ≡ n
    → dot_says (take (b * n + n - b * n) (drop (b * n) x)) row n ≡ Ok (row_sum (products (part x (b * n) n) row) n)
dot_said x row b n most room long =
    let width : b * n + n - b * n ≡ n = omega arith in
    dot_answers (take (b * n + n - b * n) (drop (b * n) x)) row n most (le_of_eq (sym (part_length x (b * n) n (b * n + n) refl room))) (le_of_eq (sym long))
    ∙ ap (λ (k : ℕ). Ok (row_sum (products (take k (drop (b * n) x)) row) n)) width

pub returns-in_err-value : goal.returns-in_err-value
returns-in_err-value c =
    let q = c.requires.batch_le_most_batch in
    let r = c.requires.in_feat_in_bounds in
    let room = (rows_in _ _ _ _ _ c.loop-b-test.true q.3 r.0 r.2).0 in
    absurd (never_refused (dot_said _ _ _ _ q.1 room r.1) c.in_err-value.ensures)

pub loop-b-preserved : goal.loop-b-preserved
loop-b-preserved c =
    let a = c.args in
    let l = c.loop-b in
    let n = a.s.in_feat in
    let outs = a.s.out_feat in
    let q = c.requires.batch_le_most_batch in
    let r = c.requires.in_feat_in_bounds in
    let room = (rows_in a.s l.b a.o _ _ c.loop-b-test.true q.3 r.0 r.2).0 in
    let v : ℕ → Float = λ k. row_sum (products (part a.x.now (k * n) n) a.row.now) n in
    let place = l.b * outs + a.o in
    let said : Ok c.in_ok-value.value ≡ Ok (v l.b) = c.in_ok-value.ensures ∙ dot_said a.x.now a.row.now l.b n q.1 room r.1 in
    let e : c.in_ok-value.value ≡ v l.b = cc in
    ap (λ (u : Float). set l.y place u) e ∙ ap (λ (ys : List Float). set ys place (v l.b)) l.invariant ∙ column_more v outs a.o a.y.now l.b

pub returns : goal.returns
returns c =
    let a = c.args in
    let n = a.s.in_feat in
    let v : ℕ → Float = λ k. row_sum (products (part a.x.now (k * n) n) a.row.now) n in
    (refl, c.loop-b.invariant ∙ ap (column v a.s.out_feat a.o a.y.now) (le_antisymm c.loop-b.auto.b-end c.loop-b-test.false))
