-- `round_iq4_nl` meets its contract: the Q8 quant, and then the value nearest to it. Assumes nothing.
use mathlib.Core.Path.{ap, ◌∙◌}
use mir.Syntax.{w8}
use Rattle.numbers.proofs.Signed.{read_is}
use Rattle.nearest.specs.Nearest.{nearest, quant_iq4_nl}
use Rattle.nearest.proofs.round_iq4_nl.Goals as goal

pub returns : goal.returns
unfolding quant_iq4_nl
returns c =
    let q = c.round_q8 in
    let r = c.nearest_to.ensures in
    r.0 ∙ ap nearest (read_is w8 _ q.type_inv ∙ q.ensures)
