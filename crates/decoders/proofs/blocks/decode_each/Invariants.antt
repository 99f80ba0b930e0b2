-- `blocks::decode_each` meets its contract: in turn b block b is decoded into its own places. Assumes nothing.
use Prim.Native.Nat.{◌*◌}
use Rattle.layouts.specs.Weights.{weight_at}
use Rattle.memory.proofs.Parts.{InParts}
use Rattle.decoders.proofs.blocks.decode_each.Given as goal

abbrev pub invariant-loop-b : goal.invariant-loop-b
invariant-loop-b l = InParts (weight_at l.format l.bytes) l.initial.out (λ k. k * l.values) l.count l.out l.b
