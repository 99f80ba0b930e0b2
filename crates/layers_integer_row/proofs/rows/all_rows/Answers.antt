-- `rows::all_rows` meets its contract: one row of readings a turn, into its own row of the output. Assumes nothing.
use mathlib.Core.Path.{◌≡◌, refl, ap, subst, ◌∙◌}
use Prim.Native.Nat.{ℕ, ◌+◌, ◌-◌, ◌*◌, ◌/◌, ◌%◌, ◌≤◌, ◌<◌}
use native.Mathlib.Nat.{le_of_eq, le_trans, zero-mul, suc-mul}
use native.Mathlib.Numerals.{add-one}
use lib.Arith.{digits_div, digits_mod}
use lib.ListN.{length, take, drop}
use lib.Ieee.{Float}
use mathlib.Core.List.{List}
use Rattle.memory.specs.Lists.{table, filled, part}
use Rattle.memory.proofs.Filled.{filled_none, part_length, part_turn}
use Rattle.layers_shape.specs.Shapes.{outputs}
use Rattle.layers_shape.proofs.Fits.{fits}
use Rattle.dots_kept_row.specs.declared.kept.KeptBlock.{KeptBlock}
use Rattle.dots_kept_row.specs.Inner.{Keeps}
use Rattle.dots_kept_row.proofs.Blocks.{kept_by}
use Rattle.layers_integer_row.specs.Inner.{kept_row_dot}
use Rattle.layers_integer_row.specs.Outputs.{integer_dot_at}
use Rattle.layers_integer_row.proofs.Outputs.{reads, writes, row_same}
use native.Mathlib.Omega.{arith}
use Rattle.layers_integer_row.proofs.rows.all_rows.Goals as goal

-- row b is kept
keeps : (x : List Float) (b n : ℕ) (kept : List KeptBlock)
    → (let row = take (b * n + n - b * n) (drop (b * n) x) in length row ≡ n → Keeps row (length row / 256) kept → Keeps (part x (b * n) n) (n / 256) kept)
keeps x b n kept long k =
    let from = b * n in
    let width : from + n - from ≡ n = omega arith in
    let row = take (from + n - from) (drop from x) in
    let by_length = subst (λ (z : ℕ). Keeps row (z / 256) kept) long k in
    subst (λ (z : ℕ). Keeps (take z (drop from x)) (n / 256) kept) width by_length

-- a place for each row of weights
places : (y : List Float) (b outs room : ℕ) → b * outs + outs ≤ room → length y ≡ room → length (take (b * outs + outs - b * outs) (drop (b * outs) y)) ≡ outs
places y b outs room h e =
    let enough : b * outs + outs ≤ length y = omega (arith, h, e) in
    part_length y (b * outs) outs (b * outs + outs) refl enough

pub loop-b-init : goal.loop-b-init
loop-b-init c = rw zero-mul (filled_none _ _)

pub keep_row-requires : goal.keep_row-requires
keep_row-requires c =
    let l = c.loop-b in
    let n = c.args.s.in_feat in
    let long = part_length c.args.x.now (l.b * n) n (l.b * n + n) refl (reads _ _ _ _ _ c.requires.0 c.loop-b-test.true) in
    (le_trans (le_of_eq long) (fits _ _ _ _ _ c.requires.0).within.in_in, rw (long, l.auto.kept) c.requires.2)

pub one_row-requires : goal.one_row-requires
one_row-requires c =
    let a = c.args in
    let l = c.loop-b in
    let n = a.s.in_feat in
    let f = fits _ _ _ _ _ c.requires.0 in
    let kept = c.keep_row.new.kept in
    let outs = places l.y l.b a.s.out_feat (length a.y.now) (writes _ _ _ _ _ c.requires.0 c.loop-b-test.true) l.auto.y in
    let long = part_length a.x.now (l.b * n) n (l.b * n + n) refl (reads _ _ _ _ _ c.requires.0 c.loop-b-test.true) in
    let row = keeps a.x.now l.b n kept long c.keep_row.ensures in
    let room : n / 256 ≤ length kept = rw (c.keep_row.auto.kept, l.auto.kept) c.requires.2 in
    rw (l.auto.dots, c.requires.1, outs) (omega (arith, f.within.in_in), f.within.out_in, f.weighed, kept_by _ _ kept room row)

pub loop-b-preserved : goal.loop-b-preserved
loop-b-preserved c =
    let a = c.args in
    let l = c.loop-b in
    let n = a.s.in_feat in
    let outs = a.s.out_feat in
    let b = l.b in
    let x = a.x.now in
    let w = a.w.now in
    let kept = c.keep_row.new.kept in
    let room = writes _ _ _ _ _ c.requires.0 c.loop-b-test.true in
    let rows = places l.y b outs (length a.y.now) room l.auto.y in
    let long = part_length x (b * n) n (b * n + n) refl (reads _ _ _ _ _ c.requires.0 c.loop-b-test.true) in
    let row = keeps x b n kept long c.keep_row.ensures in
    let f : ℕ → Float = λ j. integer_dot_at a.format a.meeting (part x (j / outs * n) n) w n (j % outs) in
    let g : ℕ → Float = kept_row_dot a.format a.meeting w kept (length l.dots) in
    let next : (b + 1) * outs ≡ b * outs + outs = rw add-one (suc-mul b outs) in
    let same : (o : ℕ) → o < outs → g o ≡ f (b * outs + o) =
    λ o t.
    ap (λ (z : ℕ). kept_row_dot a.format a.meeting w kept z o) (l.auto.dots ∙ c.requires.1)
    ∙ row_same a.format (part x (b * n) n) n kept row a.meeting w o
    ∙ rw (digits_div b t, digits_mod b t) in
    (part_turn f g a.y.now l.y c.one_row.new.y (b * outs) outs (b * outs + outs) ((b + 1) * outs) refl next room l.invariant
    (c.one_row.ensures ∙ ap (table g) rows) same).0

pub returns : goal.returns
unfolding outputs
returns c =
    let l = c.loop-b in
    let a = c.args in
    let n = a.s.in_feat in
    let outs = a.s.out_feat in
    let f : ℕ → Float = λ k. integer_dot_at a.format a.meeting (part a.x.now (k / outs * n) n) a.w.now n (k % outs) in
    let e : l.b ≡ a.s.batch = omega arith in
    l.invariant ∙ ap (λ (b : ℕ). filled f a.y.now (b * outs)) e
