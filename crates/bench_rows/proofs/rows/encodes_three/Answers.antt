-- `rows::encodes_three` meets its contract: its first two encodings, then the third. Assumes nothing.
use mathlib.Core.Path.{sym, ◌∙◌}
use Rattle.memory.specs.Lists.{every}
use Rattle.bench_rows.specs.Card.{answer, same_numbers, answered}
use Rattle.bench_rows.specs.Rows.{meant, judged}
use Rattle.bench_rows.proofs.rows.encodes_three.Goals as goal

pub returns-then-encodes_two : goal.returns-then-encodes_two
unfolding judged meant answered same_numbers answer every
returns-then-encodes_two c = rw (sym c.encodes_two.ensures ∙ c.if-encodes_two.true) c.encodes.ensures

pub returns-else-encodes_two : goal.returns-else-encodes_two
unfolding judged meant answered same_numbers answer every
returns-else-encodes_two c = rw (sym c.encodes_two.ensures ∙ c.if-encodes_two.false) c.if-encodes_two.false
