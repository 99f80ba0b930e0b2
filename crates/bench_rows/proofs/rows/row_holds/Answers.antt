-- `rows::row_holds` meets its contract: the card holds. Assumes nothing.
use mathlib.Core.Path.{ap, ◌∙◌}
use Rattle.bench_rows.specs.Card.{answered}
use Rattle.bench_rows.specs.Rows.{judged}
use Rattle.bench_rows.proofs.Judged.{row_answered}
use Rattle.bench_rows.proofs.rows.row_holds.Goals as goal

pub returns : goal.returns
unfolding judged
returns c = c.holds.ensures ∙ ap answered c.row_of.ensures ∙ row_answered c.args.number
