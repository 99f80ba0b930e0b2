-- `fillin_text::put_output` meets its contract. Assumes nothing.
use mathlib.Core.Path.{◌≡◌, ap, ◌∙◌}
use native.Mathlib.Omega.{arith}
use lib.Ieee.{binary32, to_bits}
use lib.ListN.{length}
use Rattle.fillin_text.specs.Text.{laid, hex_field}
use Rattle.fillin_text.proofs.Hexadecimal.{length_hex_field}
use Rattle.fillin_text.proofs.text.put_output.Goals as goal

pub returns : goal.returns
returns c =
    let args = c.args in
    let text : c.hex_field-text.result ≡ hex_field (to_bits binary32 args.output) = c.hex_field-text.ensures ∙ ap hex_field c.bits_of.ensures in
    record { line_after = c.put.ensures.line_after ∙ ap (laid args.line.now args.at) text; value = omega (arith, c.put.ensures.value, ap length text, length_hex_field (to_bits binary32 args.output)) }
