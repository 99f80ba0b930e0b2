-- `of32::scale_run` meets its contract: the places are filled in turn. Assumes nothing.
use Rattle.std.proofs.Common.{rules}
use mathlib.Core.Path.{ap}
use mir.Syntax.{w8}
use Rattle.numbers.proofs.Signed.{read_is}
use Rattle.memory.proofs.Filled.{filling_start, filling_more, filling_done}
use Rattle.decoded_blocks.proofs.Scaled.{times, at}
use Rattle.decoded_blocks.proofs.of32.scale_run.Goals as goal

pub loop-l-init : goal.loop-l-init
loop-l-init c = filling_start (at c.args.s c.args.q.now) c.args.out.now 16 c.requires.1

pub loop-l-preserved : goal.loop-l-preserved
loop-l-preserved c =
    filling_more (at c.args.s c.args.q.now) c.args.out.now 16 c.loop-l.out c.loop-l.l _ c.requires.1 c.loop-l.invariant c.loop-l-test.true
    (ap (times c.args.s) (read_is w8 _ (search rules)))

pub returns : goal.returns
returns c =
    filling_done (at c.args.s c.args.q.now) c.args.out.now 16 c.loop-l.out c.loop-l.l c.requires.1 c.loop-l.invariant c.loop-l-test.false
