-- `blocks::quantize_blocks` meets its contract: in turn b block b is quantised into its own places, and its scale is counted. Assumes nothing.
use mathlib.Core.Path.{◌≡◌}
use Prim.Native.Nat.{◌*◌}
use Rattle.memory.proofs.Parts.{InParts}
use Rattle.quantizers.specs.Lost.{lost_in}
use Rattle.quantizers.specs.Says.{packed_at}
use Rattle.quantizers.proofs.blocks.quantize_blocks.Given as goal

abbrev pub invariant-loop-b : goal.invariant-loop-b
invariant-loop-b l = InParts (packed_at l.target l.x) l.initial.out (λ k. k * l.size) l.blocks l.out l.b × (l.lost ≡ lost_in l.target l.x l.b)
