-- `whole::window_line` meets its contract: after k turns the first k outputs are shown. Assumes nothing.
use Rattle.fillin_lines.proofs.Outputs.{Shown}
use Rattle.fillin_lines.proofs.whole.window_line.Given as goal

abbrev pub invariant-loop-output : goal.invariant-loop-output
invariant-loop-output l = Shown l.initial.line l.initial.at l.outputs l.line l.at l.output-index
