-- `rows::gives` meets its contract. Assumes nothing.
use mir.Syntax.{w8}
use Rattle.numbers.proofs.Signed.{read_is}
use Rattle.memory.specs.Lists.{every}
use Rattle.bench_rows.specs.Card.{answer, same_numbers, answered}
use Rattle.bench_rows.specs.Rows.{meant, judged}
use Rattle.bench_rows.proofs.rows.gives.Goals as goal

pub returns : goal.returns
unfolding judged meant answered same_numbers answer every
returns c = rw (c.unsigned_byte.ensures, read_is w8 _ c.round_q8.type_inv, c.round_q8.ensures, c.of_bits.ensures)
