-- `fillin_text::hex_field` meets its contract: each digit is that of its place. Assumes nothing.
use native.Mathlib.Omega.{arith}
use Rattle.fillin_text.proofs.Hexadecimal.{hex_spelt}
use Rattle.fillin_text.proofs.text.hex_field.Goals as goal

pub returns : goal.returns
returns c = cc (hex_spelt c.args.bits (omega arith))
