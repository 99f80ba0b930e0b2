-- `whole::word_and_two` meets its contract. Assumes nothing.
use mathlib.Core.List.{◌++◌, append_assoc}
use native.Mathlib.Omega.{arith}
use Rattle.fillin_lines.specs.Lines.{newline}
use Rattle.fillin_text.specs.Text.{field}
use Rattle.fillin_text.proofs.Laid.{Written, first, next, named}
use Rattle.fillin_lines.proofs.whole.word_and_two.Goals as goal

pub returns : goal.returns
returns c =
    let args = c.args in
    let word = first args.line.now args.word.now c.put-a.ensures.line_after c.put-a.ensures.value in
    let one = next (field args.one) word c.put_field-b.ensures.line_after c.put_field-b.ensures.value.0 in
    let two = next (field args.two) one c.put_field-c.ensures.line_after c.put_field-c.ensures.value.0 in
    let text = args.word.now ++ (field args.one ++ (field args.two ++ newline)) in
    let whole : Written args.line.now text c.put.new.line c.put.result = named (simp append_assoc) (next newline two c.put.ensures.line_after c.put.ensures.value) in
    record { line_after = whole.holds; value = (whole.ends, omega (arith, c.put.ensures.value, c.put_field-c.ensures.value.1, c.put_field-b.ensures.value.1, c.put-a.ensures.value)) }
