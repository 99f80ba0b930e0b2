-- `blocks::convert_blocks` meets its contract: in turn b block b is converted into its own places. Assumes nothing.
use Prim.Native.Nat.{◌*◌}
use Rattle.memory.proofs.Parts.{InParts}
use Rattle.converters.specs.Orders.{converted_at}
use Rattle.converters.proofs.blocks.convert_blocks.Given as goal

abbrev pub invariant-loop-b : goal.invariant-loop-b
invariant-loop-b l = InParts (converted_at l.direction l.bytes) l.initial.out (λ k. k * 18) l.count l.out l.b
