-- `whole::sum_of_lanes` meets its contract. Assumes nothing.
use mir.Syntax.{w32}
use Rattle.dots_activation.specs.Whole.{elem}
use Rattle.dots_activation.proofs.Loops.{Acc}
use Rattle.dots_whole.proofs.whole.sum_of_lanes.Given as goal

abbrev pub invariant-loop-lane : goal.invariant-loop-lane
invariant-loop-lane l = Acc w32 (elem l.lanes) 7999488 l.lane-index l.a
