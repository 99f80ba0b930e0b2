-- `come::answer_one`: the answer's line stands behind the others.
use Rattle.std.proofs.Common.{arith}
use Rattle.fillin_loop.proofs.Behind.{one_more}
use Rattle.fillin_loop.proofs.come.answer_one.Goals as goal

pub returns-clause-lines_after : goal.returns-clause-lines_after
returns-clause-lines_after c =
    let e = c.answer-reply.ensures in
    one_more c.args.done c.args.weights.now c.args.lines.now c.args.«record».now (omega arith) _ c.answer-reply.new.line _ _ c.answer-reply.result _ e.replied e.weights_after c.after.ensures
