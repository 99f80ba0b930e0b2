-- `layers::judge` is safe: each memory has as many places as the payload says, which was tested, and the parts of the payload lie within it. Assumes nothing.
use Rattle.std.proofs.Common.{arith, length-take}
use Rattle.replay.proofs.layers.judge.Goals as goal

pub slice_bounds-judge_memory-end-2 : goal.slice_bounds-judge_memory-end-2
slice_bounds-judge_memory-end-2 c = simp length-take (omega arith)

pub slice_bounds-judge_memory-end-4 : goal.slice_bounds-judge_memory-end-4
slice_bounds-judge_memory-end-4 c = simp length-take (omega arith)

pub slice_bounds-judge_memory-end-5 : goal.slice_bounds-judge_memory-end-5
slice_bounds-judge_memory-end-5 c = simp length-take (omega arith)
