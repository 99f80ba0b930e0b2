-- `k::scale_run_less` meets its contract: the places are filled in turn. Assumes nothing.
use mathlib.Core.Path.{refl, sym, ◌∙◌}
use Rattle.memory.proofs.Filled.{filling_start, filling_more, filling_done}
use Rattle.decoded_blocks.proofs.k.scale_run_less.Invariants.{at}
use Rattle.decoded_blocks.proofs.k.scale_run_less.Goals as goal

pub loop-l-init : goal.loop-l-init
loop-l-init c = filling_start (at c.args.q.now c.args.s c.args.m) c.args.out.now 16 c.requires.1

pub loop-l-preserved : goal.loop-l-preserved
loop-l-preserved c =
    filling_more (at c.args.q.now c.args.s c.args.m) c.args.out.now 16 c.loop-l.out c.loop-l.l _ c.requires.1 c.loop-l.invariant c.loop-l-test.true refl

pub shape_of-out : goal.shape_of-out
shape_of-out c = c.loop-l.invariant.2 ∙ sym c.requires.1

pub returns : goal.returns
returns c =
    filling_done (at c.args.q.now c.args.s c.args.m) c.args.out.now 16 c.loop-l.out c.loop-l.l c.requires.1 c.loop-l.invariant c.loop-l-test.false
