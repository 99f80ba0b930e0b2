-- `of32::scaled_values` meets its contract: the places are filled in turn. Assumes nothing.
use Rattle.std.proofs.Common.{rules}
use mathlib.Core.Path.{refl, ap, ◌∙◌}
use mathlib.Core.List.{List}
use lib.IntN.{ℤ}
use mir.Syntax.{w8}
use Rattle.numbers.proofs.Signed.{read_is}
use Rattle.memory.specs.Lists.{table}
use Rattle.memory.proofs.Filled.{filling_start, filling_more, filling_done}
use Rattle.decoded_blocks.proofs.Scaled.{times, at}
use Rattle.decoded_blocks.proofs.of32.scaled_values.Goals as goal

pub loop-n-init : goal.loop-n-init
loop-n-init c = filling_start (at c.args.s c.values_iq4_nl-values.result) _ 16 refl

pub loop-n-preserved : goal.loop-n-preserved
loop-n-preserved c =
    let s = c.args.s in
    let v = c.values_iq4_nl-values.result in
    filling_more (at s v) _ 16 c.loop-n.scaled c.loop-n.n _ refl c.loop-n.invariant c.loop-n-test.true (ap (times s) (read_is w8 _ (search rules)))

pub returns : goal.returns
returns c =
    let s = c.args.s in
    let v = c.values_iq4_nl-values in
    filling_done (at s v.result) _ 16 c.loop-n.scaled c.loop-n.n refl c.loop-n.invariant c.loop-n-test.false ∙ ap (λ (q : List ℤ). table (at s q) 16) v.ensures
