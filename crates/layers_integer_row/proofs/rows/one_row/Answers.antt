-- `rows::one_row` meets its contract: one row of weights a turn. Assumes nothing.
use mathlib.Core.Path.{refl, sym, ap, subst, ◌∙◌}
use mathlib.Core.List.{List}
use Prim.Native.Nat.{ℕ, ◌+◌, ◌-◌, ◌*◌}
use native.Mathlib.Nat.{le_of_eq, le_trans}
use lib.ListN.{length, take, drop}
use Rattle.memory.proofs.Filled.{filling_start, filling_more, filling_done}
use Rattle.memory.proofs.Parts.{lent_part}
use Rattle.layouts.specs.Formats.{bytes_k}
use Rattle.dots_kept_row.specs.Meets.{meets}
use Rattle.dots_kept_row.specs.Inner.{KeptRow, kept_dot}
use Rattle.layers_integer_row.specs.Inner.{kept_row_dot}
use Rattle.layers_integer_row.proofs.Outputs.{row_lent}
use Rattle.layers_integer_row.proofs.rows.one_row.Goals as goal

pub loop-o-init : goal.loop-o-init
loop-o-init c = filling_start _ _ _ refl

pub kept_row_dot-requires : goal.kept_row_dot-requires
kept_row_dot-requires c =
    let a = c.args in
    let l = c.loop-o in
    let e = l.auto.dots in
    let long = row_lent a.format a.w.now (length a.dots.now) c.block_bytes.ensures c.requires.2 c.loop-o-test.true in
    let bytes = ap (λ (n : ℕ). n * bytes_k a.format) e ∙ ap (λ (z : ℕ). length a.dots.now * z) (sym c.block_bytes.ensures) in
    (le_trans (le_of_eq e) c.requires.0, le_of_eq (bytes ∙ sym long), subst (λ (n : ℕ). KeptRow n a.kept.now) (sym e) c.requires.3)

pub loop-o-preserved : goal.loop-o-preserved
loop-o-preserved c =
    let a = c.args in
    let l = c.loop-o in
    let n = length a.dots.now in
    let size = n * c.block_bytes.result in
    let row = take (l.o * size + size - l.o * size) (drop (l.o * size) a.w.now) in
    let value =
    c.kept_row_dot.ensures
    ∙ ap (meets a.meeting (kept_dot a.format row a.kept.now)) l.auto.dots
    ∙ ap (λ (v : List ℕ). meets a.meeting (kept_dot a.format v a.kept.now) n)
    (lent_part a.w.now l.o size (n * bytes_k a.format) (ap (λ (z : ℕ). n * z) c.block_bytes.ensures)) in
    filling_more (kept_row_dot a.format a.meeting a.w.now a.kept.now n) a.y.now (length a.y.now) l.y l.o _ refl l.invariant c.loop-o-test.true value

pub returns : goal.returns
returns c =
    let a = c.args in
    let l = c.loop-o in
    filling_done (kept_row_dot a.format a.meeting a.w.now a.kept.now (length a.dots.now)) a.y.now (length a.y.now) l.y l.o refl l.invariant c.loop-o-test.false
