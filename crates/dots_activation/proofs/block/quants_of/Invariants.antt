-- `block::quants_of` meets its contract: zeros, whose front is filled by the readings' quants. Assumes nothing.
use lib.IntN.{pos}
use lib.ListN.{replicate}
use Rattle.memory.proofs.Filled.{Filling}
use Rattle.dots_activation.specs.Blocks.{quant_at}
use Rattle.dots_activation.proofs.block.quants_of.Given as goal

abbrev pub invariant-loop-i : goal.invariant-loop-i
invariant-loop-i l = Filling (quant_at l.x l.inverse) (replicate 256 (pos 0)) 256 l.qs l.i
