-- `of32::quants_q8_0` meets its contract: the places are filled in turn. Assumes nothing.
use mathlib.Core.Path.{refl, ◌∙◌}
use lib.IntN.{pos}
use lib.ListN.{replicate}
use mir.Syntax.{w8}
use Rattle.numbers.proofs.Signed.{read_is}
use Rattle.layouts.specs.Of32.{quant32}
use Rattle.layouts.specs.declared.format.Format32.TheVariants.{Q80}
use Rattle.memory.proofs.Filled.{filling_start, filling_more, filling_done}
use Rattle.layouts.proofs.of32.quants_q8_0.Goals as goal

pub loop-k-init : goal.loop-k-init
loop-k-init c = filling_start (quant32 Q80 c.args.block.now) (replicate 32 (pos 0)) 32 refl

pub loop-k-preserved : goal.loop-k-preserved
unfolding quant32
loop-k-preserved c =
    let l = c.loop-k in
    filling_more (quant32 Q80 c.args.block.now) (replicate 32 (pos 0)) 32 l.x-items l.k _ refl l.invariant c.loop-k-test.true (read_is w8 _ c.signed_byte.type_inv ∙ c.signed_byte.ensures)

pub returns : goal.returns
returns c =
    let l = c.loop-k in
    filling_done (quant32 Q80 c.args.block.now) (replicate 32 (pos 0)) 32 l.x-items l.k refl l.invariant c.loop-k-test.false
