-- `block::write_quants_q4_0_ggml` meets its contract: the places are filled in turn. Assumes nothing.
use Rattle.memory.proofs.Filled.{Filling}
use Rattle.quantizers.specs.declared.target.Target.TheVariants.{Q40Ggml}
use Rattle.quantizers.proofs.Bytes.{written}
use Rattle.quantizers.proofs.block.write_quants_q4_0_ggml.Given as goal

abbrev pub invariant-loop-k : goal.invariant-loop-k
invariant-loop-k l = Filling (written Q40Ggml l.x l.inverse) l.initial.out 16 l.out l.k
