-- `steps::whole_to_f32` meets its contract. Assumes nothing.
use Rattle.numbers.proofs.Halves.{upper_in, lower_in, halves_sum}
use Rattle.numbers.proofs.steps.whole_to_f32.Goals as goal

pub int_to_float-result : goal.int_to_float-result
int_to_float-result c = upper_in c.args.n c.ranges.n.sfits

pub int_to_float-result-2 : goal.int_to_float-result-2
int_to_float-result-2 c = lower_in c.args.n c.ranges.n.sfits

pub returns : goal.returns
returns c = halves_sum c.args.n c.ranges.n.sfits
