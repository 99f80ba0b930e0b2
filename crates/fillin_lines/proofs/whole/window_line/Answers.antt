-- `whole::window_line` meets its contract: after k turns the first k outputs are shown. Assumes nothing.
use Prim.Native.Nat.{◌≤◌, ◌<◌}
use native.Mathlib.Omega.{arith}
use mathlib.Core.List.{[], ◌∷◌, append_assoc}
use lib.ListN.{length}
use Rattle.fillin_text.specs.Text.{field}
use Rattle.fillin_lines.specs.Lines.{newline, window_head, output_fields, window_line}
use Rattle.fillin_text.proofs.Laid.{Written, first, next, named}
use Rattle.fillin_lines.proofs.Outputs.{shown_none, shown_more, shown_all}
use Rattle.fillin_lines.proofs.whole.window_line.Goals as goal

pub loop-output-init : goal.loop-output-init
loop-output-init c = shown_none c.put_field-at.new.line c.put_field-at.result c.args.outputs.now

pub loop-output-preserved : goal.loop-output-preserved
loop-output-preserved c =
    let n = c.put_field-at in
    let l = c.loop-output in
    let p = c.put_output-at in
    let outputs = c.args.outputs.now in
    let room : n.result ≤ length n.new.line = omega arith in
    let more : l.output-index < length outputs = omega arith in
    shown_more n.new.line n.result outputs l.line p.new.line l.at p.result l.output-index room more l.invariant p.ensures.line_after p.ensures.value

pub returns : goal.returns
unfolding window_head window_line
returns c =
    let l = c.loop-output in
    let ys = c.args.outputs.now in
    let past : length ys ≤ l.output-index = omega arith in
    let all = shown_all c.put_field-at.new.line c.put_field-at.result ys l.line l.at l.output-index past l.invariant in
    let word = first c.args.line.now (119 ∷ 105 ∷ 110 ∷ 100 ∷ 111 ∷ 119 ∷ []) c.put-a.ensures.line_after c.put-a.ensures.value in
    let number = next (field c.args.number) word c.put_field-at.ensures.line_after c.put_field-at.ensures.value.0 in
    let shown = next (output_fields ys) number all.0 all.1 in
    let whole : Written c.args.line.now (window_line c.args.number ys) c.put.new.line c.put.result = named (simp append_assoc) (next newline shown c.put.ensures.line_after c.put.ensures.value) in
    record { line_after = whole.holds; value = (whole.ends, omega (arith, c.put.ensures.value, c.put_field-at.ensures.value.1, c.put-a.ensures.value)) }
