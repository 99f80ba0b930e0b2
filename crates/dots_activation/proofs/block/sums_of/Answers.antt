-- `block::sums_of` meets its contract. Assumes nothing.
use mathlib.Core.Path.{refl, ◌∙◌}
use native.Mathlib.Omega.{arith}
use mir.Syntax.{w16, w32}
use Rattle.memory.proofs.Filled.{filling_start, filling_more}
use Rattle.dots_activation.specs.Whole.{elem}
use Rattle.dots_activation.specs.Blocks.{sum_of_32}
use Rattle.dots_activation.proofs.Loops.{wide_is}
use Rattle.dots_activation.proofs.Pairs.{pairs_sum}
use Rattle.dots_activation.proofs.block.sums_of.Goals as goal

pub loop-j-init : goal.loop-j-init
loop-j-init c = filling_start _ _ 8 refl

pub loop-j-preserved : goal.loop-j-preserved
loop-j-preserved c =
    let l = c.loop-j in
    let t = c.pairs-t in
    let qs = c.args.qs.now in
    let sum = pairs_sum (elem qs) t.result l.j t.ensures.0 (omega arith) in
    filling_more (sum_of_32 qs) _ 8 l.sums l.j _ refl l.invariant (omega arith) (wide_is w16 w32 _ c.sum_of_32.type_inv tt ∙ c.sum_of_32.ensures.0 ∙ sum)
