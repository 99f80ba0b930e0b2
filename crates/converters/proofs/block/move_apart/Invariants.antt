-- `block::move_apart` meets its contract: in turn k the neighbours 2 k and 2 k + 1 are filled. Assumes nothing.
use Prim.Native.Nat.{◌/◌}
use Rattle.layouts.proofs.Two.{Pairs}
use Rattle.converters.specs.Orders.{moved_byte}
use Rattle.converters.specs.declared.direction.Direction.TheVariants.{ToGgml}
use Rattle.converters.proofs.block.move_apart.Given as goal

abbrev pub invariant-loop-k : goal.invariant-loop-k
invariant-loop-k l = Pairs 8 (λ i. i / 2) (moved_byte ToGgml l.block) 0 l.out l.k
