-- `come::answer_come`: what is answered so far, and then the records that are left, is what is to be answered.
use Rattle.fillin_loop.proofs.Turns.{Going}
use Rattle.fillin_loop.proofs.come.answer_come.Given as goal

abbrev pub invariant-loop : goal.invariant-loop
invariant-loop l = Going l.come l.ended l.fn.st l.fn.weights l.fn.lines l.weights l.lines l.done l.counter
