-- `rows::widens` meets its contract. Assumes nothing.
use Rattle.memory.specs.Lists.{every}
use Rattle.bench_rows.specs.Card.{answer, same_numbers, answered}
use Rattle.bench_rows.specs.Rows.{meant, judged}
use Rattle.bench_rows.proofs.rows.widens.Goals as goal

pub returns : goal.returns
unfolding judged meant answered same_numbers answer every
returns c = rw (c.bits_of.ensures, c.f16_to_f32.ensures)
