-- `block::move_together` meets its contract: in turn k the places k and k + 8 are filled. Assumes nothing.
use Prim.Native.Nat.{◌%◌}
use Rattle.layouts.proofs.Two.{Pairs}
use Rattle.converters.specs.Orders.{moved_byte}
use Rattle.converters.specs.declared.direction.Direction.TheVariants.{FromGgml}
use Rattle.converters.proofs.block.move_together.Given as goal

abbrev pub invariant-loop-k : goal.invariant-loop-k
invariant-loop-k l = Pairs 8 (λ i. i % 8) (moved_byte FromGgml l.block) 0 l.out l.k
