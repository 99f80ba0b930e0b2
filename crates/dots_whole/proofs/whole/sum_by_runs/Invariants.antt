-- `whole::sum_by_runs` meets its contract: sixteen runs. Assumes nothing.
use mir.Syntax.{w32}
use Rattle.layouts.specs.declared.format.FormatK.TheVariants.{Q6K}
use Rattle.dots_activation.specs.Whole.{elem}
use Rattle.dots_activation.proofs.Loops.{Acc}
use Rattle.dots_whole.proofs.Runs.{stretch_weighs}
use Rattle.dots_whole.proofs.whole.sum_by_runs.Given as goal

abbrev pub invariant-loop-e : goal.invariant-loop-e
invariant-loop-e l = Acc w32 (stretch_weighs Q6K l.w (elem l.q) l.x 16) 133693440 l.e l.a
