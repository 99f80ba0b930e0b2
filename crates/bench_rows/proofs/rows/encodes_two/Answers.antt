-- `rows::encodes_two` meets its contract: its two encodings, one after the other. Assumes nothing.
use mathlib.Core.Path.{sym, ◌∙◌}
use Rattle.memory.specs.Lists.{every}
use Rattle.bench_rows.specs.Card.{answer, same_numbers, answered}
use Rattle.bench_rows.specs.Rows.{meant, judged}
use Rattle.bench_rows.proofs.rows.encodes_two.Goals as goal

pub returns-then-encodes : goal.returns-then-encodes
unfolding judged meant answered same_numbers answer every
returns-then-encodes c = rw (sym c.encodes.ensures ∙ c.if-encodes.true) c.encodes-then-encodes.ensures

pub returns-else-encodes : goal.returns-else-encodes
unfolding judged meant answered same_numbers answer every
returns-else-encodes c = rw (sym c.encodes.ensures ∙ c.if-encodes.false) c.if-encodes.false
