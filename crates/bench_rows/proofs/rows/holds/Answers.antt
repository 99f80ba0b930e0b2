-- `rows::holds` meets its contract, kind by kind. Assumes nothing.
use mathlib.Core.Path.{sym, ap, ◌∙◌}
use mir.Syntax.{w32}
use Rattle.numbers.proofs.Signed.{read_is}
use Rattle.bench_rows.specs.Rows.{judged}
use Rattle.bench_rows.proofs.rows.holds.Goals as goal

pub returns-in-Widens : goal.returns-in-Widens
returns-in-Widens c = c.widens.ensures ∙ ap judged (sym c.in-Widens.is)

pub returns-in-Encodes : goal.returns-in-Encodes
returns-in-Encodes c = c.encodes.ensures ∙ ap judged (sym c.in-Encodes.is)

pub returns-in-EncodesTwo : goal.returns-in-EncodesTwo
returns-in-EncodesTwo c = c.encodes_two.ensures ∙ ap judged (sym c.in-EncodesTwo.is)

pub returns-in-EncodesThree : goal.returns-in-EncodesThree
returns-in-EncodesThree c = c.encodes_three.ensures ∙ ap judged (sym c.in-EncodesThree.is)

pub returns-in-Packs : goal.returns-in-Packs
returns-in-Packs c = c.packs.ensures ∙ ap judged (sym c.in-Packs.is)

pub returns-in-Sums : goal.returns-in-Sums
returns-in-Sums c = c.sums_to.ensures ∙ ap judged (sym c.in-Sums.is)

pub returns-in-Becomes : goal.returns-in-Becomes
returns-in-Becomes c =
    rw c.in-Becomes.is
    (rw (read_is w32 _ c.in-Becomes.known_told-in-Becomes-1-own.given.0.1) at c.becomes.ensures)

pub returns-in-Quantizes : goal.returns-in-Quantizes
returns-in-Quantizes c = c.quantizes.ensures ∙ ap judged (sym c.in-Quantizes.is)

pub returns-in-Gives : goal.returns-in-Gives
returns-in-Gives c = c.gives.ensures ∙ ap judged (sym c.in-Gives.is)
