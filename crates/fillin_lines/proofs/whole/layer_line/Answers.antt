-- `whole::layer_line` meets its contract. Assumes nothing.
use mathlib.Core.List.{[], ◌∷◌, append_assoc}
use native.Mathlib.Omega.{arith}
use Rattle.fillin_lines.specs.Lines.{newline, layer_line}
use Rattle.fillin_text.specs.Text.{field}
use Rattle.fillin_text.proofs.Laid.{Written, first, next, named}
use Rattle.fillin_lines.proofs.whole.layer_line.Goals as goal

pub returns : goal.returns
unfolding layer_line
returns c =
    let args = c.args in
    let word = first args.line.now (108 ∷ 97 ∷ 121 ∷ 101 ∷ 114 ∷ []) c.put-a.ensures.line_after c.put-a.ensures.value in
    let one = next (field args.format) word c.put_field-b.ensures.line_after c.put_field-b.ensures.value.0 in
    let two = next (field args.in_feat) one c.put_field-c.ensures.line_after c.put_field-c.ensures.value.0 in
    let three = next (field args.out_feat) two c.put_field-d.ensures.line_after c.put_field-d.ensures.value.0 in
    let whole : Written args.line.now (layer_line args.format args.in_feat args.out_feat) c.put.new.line c.put.result = named (simp append_assoc) (next newline three c.put.ensures.line_after c.put.ensures.value) in
    record { line_after = whole.holds; value = (whole.ends, omega (arith, c.put.ensures.value, c.put_field-d.ensures.value.1, c.put_field-c.ensures.value.1, c.put_field-b.ensures.value.1, c.put-a.ensures.value)) }
