-- `rows::sums_to` meets its contract: a refusal is no sum. Assumes nothing.
use Rattle.memory.specs.Lists.{every}
use Rattle.bench_rows.specs.Card.{same_numbers}
use Rattle.bench_rows.proofs.Judged.{summed}
use Rattle.bench_rows.proofs.rows.sums_to.Goals as goal

pub returns-in_default : goal.returns-in_default
unfolding same_numbers
returns-in_default c = rw c.in_default.is at (summed c.args.first c.args.bits _ (rw c.of_bits.ensures at c.canonical_sum_pub.ensures))

pub returns : goal.returns
unfolding same_numbers every
returns c = rw c.bits_of.ensures (rw c.in-Ok.is at (summed c.args.first c.args.bits _ (rw c.of_bits.ensures at c.canonical_sum_pub.ensures)))
