-- `block::write_quants_q8_0` meets its contract: the places are filled in turn. Assumes nothing.
use Rattle.memory.proofs.Filled.{Filling}
use Rattle.quantizers.specs.declared.target.Target.TheVariants.{Q80}
use Rattle.quantizers.proofs.Bytes.{written}
use Rattle.quantizers.proofs.block.write_quants_q8_0.Given as goal

abbrev pub invariant-loop-k : goal.invariant-loop-k
invariant-loop-k l = Filling (written Q80 l.x l.inverse) l.initial.out 32 l.out l.k
