-- `rows::encodes` meets its contract. Assumes nothing.
use Rattle.memory.specs.Lists.{every}
use Rattle.bench_rows.specs.Card.{answer, same_numbers, answered}
use Rattle.bench_rows.specs.Rows.{meant, judged}
use Rattle.bench_rows.proofs.rows.encodes.Goals as goal

pub returns : goal.returns
unfolding judged meant answered same_numbers answer every
returns c = rw c.f32_to_f16.ensures
