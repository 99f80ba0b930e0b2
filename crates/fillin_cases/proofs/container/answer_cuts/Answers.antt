-- `container::answer_cuts` is safe: a cut lies within the file. Assumes nothing.
use Rattle.std.proofs.Common.{◌-◌, length, arith, length-take}
use Rattle.fillin_cases.proofs.container.answer_cuts.Goals as goal

pub slice_bounds-answer_file-end : goal.slice_bounds-answer_file-end
slice_bounds-answer_file-end c = simp length-take (omega arith)
