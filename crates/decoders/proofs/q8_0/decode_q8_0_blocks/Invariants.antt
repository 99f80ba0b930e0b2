-- `q8_0::decode_q8_0_blocks` meets its contract: in turn b block b is decoded into its own places. Assumes nothing.
use Prim.Native.Nat.{◌*◌}
use Rattle.memory.proofs.Parts.{InParts}
use Rattle.layouts.specs.Weights.{weight_at}
use Rattle.layouts.specs.declared.format.Format.{Format}
use Rattle.layouts.specs.declared.format.Format.TheVariants.{Of32}
use Rattle.layouts.specs.declared.format.Format32.TheVariants.{Q80}
use Rattle.decoders.proofs.q8_0.decode_q8_0_blocks.Given as goal

abbrev pub q8_0 : Format
q8_0 = Of32 Q80

abbrev pub invariant-loop-b : goal.invariant-loop-b
invariant-loop-b l = InParts (weight_at q8_0 l.bytes) l.initial.out (λ k. k * 32) l.count l.out l.b
