-- `whole::sum_of_products` meets its contract: the pairs, by lanes. Assumes nothing.
use mathlib.Core.Path.{◌∙◌}
use mir.Syntax.{w32}
use Rattle.numbers.proofs.Signed.{read_is}
use Rattle.dots_whole.proofs.Lanes.{lanes_sum}
use Rattle.dots_whole.proofs.whole.sum_of_products.Goals as goal

pub returns : goal.returns
returns c =
    let l = c.lanes_of-lanes in
    let a = c.args in
    read_is w32 _ c.sum_of_lanes.type_inv ∙ c.sum_of_lanes.ensures ∙ lanes_sum a.w.now a.p.now l.result l.ensures.0
