-- `of32::decode_picked` meets its contract: in turn k the places k and k + 16 are filled. Assumes nothing.
use Prim.Native.Nat.{◌%◌}
use lib.Ieee.{nan}
use Rattle.layouts.specs.Of32.{quant32}
use Rattle.layouts.specs.declared.format.Format32.TheVariants.{Iq4Nl}
use Rattle.layouts.proofs.Two.{Pairs}
use Rattle.decoded_blocks.proofs.Scaled.{times}
use Rattle.decoded_blocks.proofs.of32.decode_picked.Given as goal

abbrev pub invariant-loop-k : goal.invariant-loop-k
invariant-loop-k l = Pairs 16 (λ i. i % 16) (λ i. times l.s (quant32 Iq4Nl l.block i)) nan l.out l.k
