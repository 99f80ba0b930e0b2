-- `fused_rows::all_rows` meets its contract: one row of readings a turn, into its own row of the output. Assumes nothing.
use mathlib.Core.Path.{◌≡◌, refl, sym, ap, ◌∙◌}
use Prim.Native.Nat.{ℕ, ◌+◌, ◌-◌, ◌*◌, ◌/◌, ◌%◌, ◌≤◌, ◌<◌}
use native.Mathlib.Nat.{le_antisymm, zero-mul, suc-mul}
use native.Mathlib.Numerals.{add-one}
use native.Mathlib.Omega.{arith}
use mathlib.Core.List.{List}
use lib.Arith.{digits_div, digits_mod}
use lib.ListN.{length, take, drop}
use lib.Ieee.{Float}
use Rattle.refusals.specs.Said.{done}
use Rattle.refusals.proofs.Laws.{carried_value, never_refused}
use Rattle.memory.specs.Lists.{table, filled, part}
use Rattle.memory.proofs.Filled.{filled_none, part_length, part_turn}
use Rattle.layers_shape.specs.Shapes.{outputs}
use Rattle.layers_shape.proofs.Fits.{fits}
use Rattle.layers_fused.specs.Says.{fused_dot_at, fused_layer_says}
use Rattle.layers_fused.proofs.RowDots.{rows_in}
use Rattle.layers_fused.proofs.fused_rows.all_rows.Goals as goal

pub loop-b-init : goal.loop-b-init
loop-b-init c = rw zero-mul (filled_none _ _)

pub overflow_mul-at : goal.overflow_mul-at
overflow_mul-at c = omega (arith, rows_in _ _ _ _ _ _ c.requires c.loop-b-test.true)

pub overflow_add-end : goal.overflow_add-end
overflow_add-end c = omega (arith, rows_in _ _ _ _ _ _ c.requires c.loop-b-test.true)

-- a row that is lent is as long as it is
lent_row : {A : Type 0} (xs : List A) (b n : ℕ) → b * n + n ≤ length xs → length (take (b * n + n - b * n) (drop (b * n) xs)) ≡ n
lent_row xs b n h = part_length xs (b * n) n (b * n + n) refl h

pub one_row-requires : goal.one_row-requires
one_row-requires c =
    let a = c.args in
    let l = c.loop-b in
    let f = fits _ _ _ _ _ c.requires in
    let r = rows_in _ _ _ _ _ _ c.requires c.loop-b-test.true in
    rw (lent_row a.x.now l.b a.s.in_feat r.0, lent_row l.y l.b a.s.out_feat (omega (arith, r.1, l.auto.y))) (f.within.in_in, f.whole, f.within.out_in, f.weighed)

pub returns-in_err-one_row : goal.returns-in_err-one_row
returns-in_err-one_row c = absurd (never_refused refl c.in_err-one_row.ensures.0)

pub loop-b-preserved : goal.loop-b-preserved
loop-b-preserved c =
    let a = c.args in
    let l = c.loop-b in
    let b = l.b in
    let n = a.s.in_feat in
    let outs = a.s.out_feat in
    let x = a.x.now in
    let w = a.w.now in
    let r = rows_in _ _ _ _ _ _ c.requires c.loop-b-test.true in
    let row = take (b * n + n - b * n) (drop (b * n) x) in
    let f : ℕ → Float = λ k. fused_dot_at a.format (part x (k / outs * n) n) w n (k % outs) in
    let g : ℕ → Float = λ o. fused_dot_at a.format row w (length row) o in
    let next : (b + 1) * outs ≡ b * outs + outs = rw add-one (suc-mul b outs) in
    let width : b * n + n - b * n ≡ n = omega arith in
    let same : (o : ℕ) → o < outs → g o ≡ f (b * outs + o) = λ o h. rw (lent_row x b n r.0, width, digits_div b h, digits_mod b h) in
    (part_turn f g a.y.now l.y c.one_row.new.y (b * outs) outs (b * outs + outs) ((b + 1) * outs) refl next r.1 l.invariant
    (c.in_ok-one_row.ensures.1 ∙ ap (table g) (lent_row l.y b outs (omega (arith, r.1, l.auto.y)))) same).0

pub returns : goal.returns
unfolding fused_layer_says outputs
returns c =
    let l = c.loop-b in
    let a = c.args in
    let outs = a.s.out_feat in
    let f : ℕ → Float = λ k. fused_dot_at a.format (part a.x.now (k / outs * a.s.in_feat) a.s.in_feat) a.w.now a.s.in_feat (k % outs) in
    let e : l.b ≡ a.s.batch = le_antisymm l.auto.b-end c.loop-b-test.false in
    ap (λ (y : List Float). (done, y)) (l.invariant ∙ ap (λ (b : ℕ). filled f a.y.now (b * outs)) e) ∙ sym (carried_value _ _ _ _ c.requires)
