-- `block::write_quants_q4_0_ggml` meets its contract: the places are filled in turn. Assumes nothing.
use mathlib.Core.Path.{sym, ◌∙◌}
use Rattle.memory.proofs.Filled.{filling_start, filling_more, filling_done}
use Rattle.quantizers.specs.declared.target.Target.TheVariants.{Q40Ggml}
use Rattle.quantizers.proofs.Bytes.{written}
use Rattle.quantizers.proofs.block.write_quants_q4_0_ggml.Goals as goal

pub loop-k-init : goal.loop-k-init
loop-k-init c = filling_start (written Q40Ggml c.args.x.now c.args.inverse) c.args.out.now 16 c.requires.1

pub loop-k-preserved : goal.loop-k-preserved
loop-k-preserved c =
    let l = c.loop-k in
    filling_more (written Q40Ggml c.args.x.now c.args.inverse) c.args.out.now 16 l.out l.k _ c.requires.1 l.invariant c.loop-k-test.true c.nibbles_of.ensures

pub shape_of-out : goal.shape_of-out
shape_of-out c = c.loop-k.invariant.2 ∙ sym c.requires.1

pub returns : goal.returns
returns c =
    let l = c.loop-k in
    filling_done (written Q40Ggml c.args.x.now c.args.inverse) c.args.out.now 16 l.out l.k c.requires.1 l.invariant c.loop-k-test.false
