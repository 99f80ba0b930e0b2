-- `block::sums_of` meets its contract. Assumes nothing.
use Rattle.memory.proofs.Filled.{Filling}
use Rattle.dots_activation.specs.Blocks.{sum_of_32}
use Rattle.dots_activation.proofs.block.sums_of.Given as goal

abbrev pub invariant-loop-j : goal.invariant-loop-j
invariant-loop-j l = Filling (sum_of_32 l.qs) l.initial.sums 8 l.sums l.j
