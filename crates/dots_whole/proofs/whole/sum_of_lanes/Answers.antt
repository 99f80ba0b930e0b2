-- `whole::sum_of_lanes` meets its contract. Assumes nothing.
use native.Mathlib.Omega.{arith}
use mir.Syntax.{w32}
use Rattle.numbers.proofs.Signed.{read_is}
use Rattle.dots_activation.proofs.Loops.{acc_none, acc_more}
use Rattle.dots_whole.proofs.whole.sum_of_lanes.Goals as goal

pub loop-lane-init : goal.loop-lane-init
loop-lane-init c = acc_none w32 _ 7999488

pub loop-lane-preserved : goal.loop-lane-preserved
loop-lane-preserved c = acc_more 8 c.loop-lane.invariant (read_is w32 _ c.lane-1.given) (c.requires.near _ (omega arith)) (omega arith) tt
