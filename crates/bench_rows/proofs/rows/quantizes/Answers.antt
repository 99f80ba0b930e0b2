-- `rows::quantizes` meets its contract: three readings are never refused. Assumes nothing.
use mathlib.Core.Path.{◌∙◌}
use Rattle.bench_rows.proofs.Judged.{quantised, three_kept}
use Rattle.bench_rows.proofs.rows.quantizes.Goals as goal

pub returns-in_default : goal.returns-in_default
returns-in_default c =
    let a = c.args in
    absurd (three_kept a.x a.y _ _ (rw (c.of_bits.ensures, c.of_bits-2.ensures) at c.quantize_block_q8.ensures) c.in_default.is)

pub returns : goal.returns
returns c =
    let a = c.args in
    c.block_is.ensures ∙ (rw c.in-Ok.is at (quantised a.x a.y a.inverse a.a a.b a.c _ (rw (c.of_bits.ensures, c.of_bits-2.ensures) at c.quantize_block_q8.ensures)))
