-- `whole::refused_line` meets its contract. Assumes nothing.
use Prim.Native.Nat.{ℕ}
use mathlib.Core.List.{List, [], ◌∷◌, append_assoc}
use native.Mathlib.Omega.{arith}
use Rattle.fillin_lines.specs.Lines.{newline, window_head, refused_line}
use Rattle.fillin_text.specs.Text.{field}
use Rattle.fillin_text.proofs.Laid.{Written, first, next, named}
use Rattle.fillin_lines.proofs.whole.refused_line.Goals as goal

pub returns : goal.returns
unfolding window_head refused_line
returns c =
    let args = c.args in
    let word = first args.line.now (119 ∷ 105 ∷ 110 ∷ 100 ∷ 111 ∷ 119 ∷ []) c.put-a.ensures.line_after c.put-a.ensures.value in
    let number = next (field args.number) word c.put_field-b.ensures.line_after c.put_field-b.ensures.value.0 in
    let refused : List ℕ = (32 ∷ 114 ∷ 101 ∷ 102 ∷ 117 ∷ 115 ∷ 101 ∷ 100 ∷ 32 ∷ 49 ∷ 51 ∷ newline) in
    let whole : Written args.line.now (refused_line args.number) c.put.new.line c.put.result = named (simp append_assoc) (next refused number c.put.ensures.line_after c.put.ensures.value) in
    record { line_after = whole.holds; value = (whole.ends, omega (arith, c.put.ensures.value, c.put_field-b.ensures.value.1, c.put-a.ensures.value)) }
