-- `kept::kept_row_dot` meets its contract: one block's dot a turn. Assumes nothing.
use mathlib.Core.Path.{refl, ap, ◌∙◌}
use mathlib.Core.List.{List}
use Prim.Native.Nat.{ℕ}
use lib.ListN.{length}
use Rattle.memory.proofs.Filled.{filling_start, filling_more, filling_done}
use Rattle.memory.proofs.Parts.{lent_part}
use Rattle.layouts.specs.Formats.{bytes_k}
use Rattle.dots_integer.specs.Dots.{block_dot}
use Rattle.dots_kept_row.specs.Inner.{kept_at, kept_dot}
use Rattle.dots_kept_row.proofs.Meets.{table_meets}
use Rattle.dots_kept_row.proofs.Blocks.{lent}
use Rattle.dots_kept_row.proofs.kept.kept_row_dot.Goals as goal

pub loop-t-init : goal.loop-t-init
loop-t-init c = filling_start _ _ _ refl

pub block_dot-requires : goal.block_dot-requires
block_dot-requires c =
    let b = c.requires.2.at c.loop-t.t c.loop-t-test.true in
    (lent c.args.format c.args.w.now c.block_bytes-size.ensures c.requires.1 c.loop-t-test.true, b.quants, b.eight, λ _. b.small)

pub loop-t-preserved : goal.loop-t-preserved
loop-t-preserved c =
    let r = c.block_bytes-size in
    let a = c.args in
    let l = c.loop-t in
    let b = kept_at a.kept.now l.t in
    filling_more (kept_dot a.format a.w.now a.kept.now) a.dots.now (length a.dots.now) l.dots l.t _ refl l.invariant c.loop-t-test.true
    (c.block_dot.ensures ∙ ap (λ (v : List ℕ). block_dot a.format v b.d b.qs b.bsums 256) (lent_part a.w.now l.t r.result (bytes_k a.format) r.ensures))

pub returns : goal.returns
returns c =
    let a = c.args in
    let l = c.loop-t in
    let f = kept_dot a.format a.w.now a.kept.now in
    c.meet.ensures ∙ table_meets a.meeting f l.dots (length a.dots.now) (filling_done f a.dots.now (length a.dots.now) l.dots l.t refl l.invariant c.loop-t-test.false)
