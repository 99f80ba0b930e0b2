-- `records::judge_payload` is safe: the part of the buffer that is filled and then judged has the payload's length, which was tested. Assumes nothing.
use Rattle.std.proofs.Common.{arith, length-append, length-drop, length-take}
use Rattle.replay.proofs.records.judge_payload.Goals as goal

pub slice_bounds-read_full-end-2 : goal.slice_bounds-read_full-end-2
slice_bounds-read_full-end-2 c = simp length-take (omega arith)

pub slice_bounds-judge-end-2 : goal.slice_bounds-judge-end-2
slice_bounds-judge-end-2 c = simp (length-take, length-append, length-drop) (omega arith)
