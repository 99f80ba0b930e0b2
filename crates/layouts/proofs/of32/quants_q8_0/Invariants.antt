-- `of32::quants_q8_0` meets its contract: the places are filled in turn. Assumes nothing.
use Rattle.layouts.specs.Of32.{quant32}
use Rattle.layouts.specs.declared.format.Format32.TheVariants.{Q80}
use Rattle.memory.proofs.Filled.{Filling}
use Rattle.layouts.proofs.of32.quants_q8_0.Given as goal

abbrev pub invariant-loop-k : goal.invariant-loop-k
invariant-loop-k l = Filling (quant32 Q80 l.block) l.initial.x-items 32 l.x-items l.k
