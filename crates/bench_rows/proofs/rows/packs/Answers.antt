-- `rows::packs` meets its contract: 32 readings are never refused. Assumes nothing.
use mathlib.Core.Path.{◌∙◌}
use Rattle.bench_rows.proofs.Judged.{packed_done, packed_judged}
use Rattle.bench_rows.proofs.rows.packs.Goals as goal

pub returns-in_default : goal.returns-in_default
returns-in_default c =
    let a = c.args in
    absurd (packed_done a.first a.a a.b a.c _ _ (rw c.of_bits.ensures at c.quantize_q4_0.ensures) _ c.in_default.is)

pub returns : goal.returns
returns c =
    let a = c.args in
    c.same_bytes.ensures ∙ packed_judged a.first a.a a.b a.c c.quantize_q4_0.result _ (rw c.of_bits.ensures at c.quantize_q4_0.ensures)
