-- `rows::becomes` meets its contract. Assumes nothing.
use mir.Syntax.{w32}
use Rattle.numbers.proofs.Signed.{read_is}
use Rattle.memory.specs.Lists.{every}
use Rattle.bench_rows.specs.Card.{answer, same_numbers, answered}
use Rattle.bench_rows.specs.Rows.{meant, judged}
use Rattle.bench_rows.proofs.rows.becomes.Goals as goal

pub returns : goal.returns
unfolding judged meant answered same_numbers answer every
returns c = rw (c.bits_of.ensures, c.whole_to_f32.ensures, read_is w32 _ c.ranges.n.sfits)
