-- `of32::quants_q4_0` meets its contract: in turn k the neighbours 2 k and 2 k + 1 are filled. Assumes nothing.
use Prim.Native.Nat.{◌/◌}
use lib.IntN.{pos}
use Rattle.layouts.specs.Of32.{quant32}
use Rattle.layouts.specs.declared.format.Format32.TheVariants.{Q40}
use Rattle.layouts.proofs.Two.{Pairs}
use Rattle.layouts.proofs.of32.quants_q4_0.Given as goal

abbrev pub invariant-loop-k : goal.invariant-loop-k
invariant-loop-k l = Pairs 16 (λ i. i / 2) (quant32 Q40 l.block) (pos 0) l.q l.k
