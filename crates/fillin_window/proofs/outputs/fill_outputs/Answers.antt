-- `outputs::fill_outputs` meets its contract. Assumes nothing.
use Prim.{Unit}
use mathlib.Core.Path.{◌≡◌, refl, sym, ap, ◌∙◌}
use borrow.Author.Rules.{rules}
use lib.ListN.{length}
use Rattle.refusals.specs.Said.{Said}
use Rattle.refusals.proofs.Laws.{never_refused}
use Rattle.stepped_shape.specs.Layer.{Memory}
use Rattle.fillin_window.proofs.Rows.{open_done, worked}
use Rattle.fillin_window.proofs.outputs.fill_outputs.Goals as goal

pub returns-in_err-open : goal.returns-in_err-open
returns-in_err-open c =
    let opens = ap (λ (p : Said (Unit {0}) × Memory). p.0) c.open.ensures ∙ open_done c.args.l c.args.w.now c.args.x.now c.requires.0 c.requires.1 _ (refl, refl) in
    absurd (never_refused opens (sym c.in_err-open.was))

pub returns-in_err-run : goal.returns-in_err-run
returns-in_err-run c =
    let p = c.piece.new in
    let r = c.run.new in
    let lengths : (length p.slots ≡ 16) × (length p.marks ≡ 16) × (length r.slots ≡ 16) × (length r.marks ≡ 16) = search rules in
    let facts = worked c.args.l c.args.w.now c.args.x.now c.requires.0 c.requires.1 _ (refl, refl) _ _ c.open.ensures c.piece.ensures _ c.run.ensures (lengths.0, lengths.1) (lengths.2, lengths.3) in
    absurd (facts.not_refused _ c.in_err-run.was)

pub close_rows-requires : goal.close_rows-requires
close_rows-requires c =
    let p = c.piece.new in
    let r = c.run.new in
    let lengths : (length p.slots ≡ 16) × (length p.marks ≡ 16) × (length r.slots ≡ 16) × (length r.marks ≡ 16) = search rules in
    let facts = worked c.args.l c.args.w.now c.args.x.now c.requires.0 c.requires.1 _ (refl, refl) _ _ c.open.ensures c.piece.ensures _ c.run.ensures (lengths.0, lengths.1) (lengths.2, lengths.3) in
    (facts.runs_out, c.requires.2)

pub returns-clause-y_after : goal.returns-clause-y_after
returns-clause-y_after c =
    let p = c.piece.new in
    let r = c.run.new in
    let lengths : (length p.slots ≡ 16) × (length p.marks ≡ 16) × (length r.slots ≡ 16) × (length r.marks ≡ 16) = search rules in
    let facts = worked c.args.l c.args.w.now c.args.x.now c.requires.0 c.requires.1 _ (refl, refl) _ _ c.open.ensures c.piece.ensures _ c.run.ensures (lengths.0, lengths.1) (lengths.2, lengths.3) in
    c.close_rows.ensures.y_after ∙ facts.dots _
