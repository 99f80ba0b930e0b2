-- `block::write_quants_q8_0` meets its contract: the places are filled in turn. Assumes nothing.
use mathlib.Core.Path.{sym, ap, ◌∙◌}
use mir.Syntax.{w8}
use Rattle.numbers.specs.Fields.{byte_of}
use Rattle.numbers.proofs.Signed.{read_is}
use Rattle.memory.proofs.Filled.{filling_start, filling_more, filling_done}
use Rattle.quantizers.specs.declared.target.Target.TheVariants.{Q80}
use Rattle.quantizers.proofs.Bytes.{written}
use Rattle.quantizers.proofs.block.write_quants_q8_0.Goals as goal

pub loop-k-init : goal.loop-k-init
loop-k-init c = filling_start (written Q80 c.args.x.now c.args.inverse) c.args.out.now 32 c.requires.1

pub loop-k-preserved : goal.loop-k-preserved
loop-k-preserved c =
    let l = c.loop-k in
    filling_more (written Q80 c.args.x.now c.args.inverse) c.args.out.now 32 l.out l.k _ c.requires.1 l.invariant c.loop-k-test.true
    (c.unsigned_byte.ensures ∙ ap byte_of (read_is w8 _ c.round_q8.type_inv ∙ c.round_q8.ensures))

pub shape_of-out : goal.shape_of-out
shape_of-out c = c.loop-k.invariant.2 ∙ sym c.requires.1

pub returns : goal.returns
returns c =
    let l = c.loop-k in
    filling_done (written Q80 c.args.x.now c.args.inverse) c.args.out.now 32 l.out l.k c.requires.1 l.invariant c.loop-k-test.false
