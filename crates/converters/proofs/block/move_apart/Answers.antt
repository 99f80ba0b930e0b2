-- `block::move_apart` meets its contract: in turn k the neighbours 2 k and 2 k + 1 are filled. Assumes nothing.
use mathlib.Core.Path.{sym, ◌∙◌}
use Prim.Native.Nat.{◌/◌}
use lib.ListN.{length-set}
use native.Mathlib.Omega.{arith}
use Rattle.layouts.proofs.Two.{own_neighbours, pairs_none, pairs_more, pairs_all}
use Rattle.converters.specs.Orders.{moved_byte}
use Rattle.converters.specs.declared.direction.Direction.TheVariants.{ToGgml}
use Rattle.converters.proofs.Moved.{apart_even, apart_odd}
use Rattle.converters.proofs.block.move_apart.Goals as goal

pub loop-k-init : goal.loop-k-init
loop-k-init c = pairs_none 8 (λ i. i / 2) (moved_byte ToGgml c.args.block.now) 0 c.args.out.now c.requires.1

pub bounds-out-k-in-loop-k : goal.bounds-out-k-in-loop-k
bounds-out-k-in-loop-k c = rw length-set (omega arith)

pub loop-k-preserved : goal.loop-k-preserved
loop-k-preserved c =
    let bs = c.args.block.now in
    let k = c.loop-k.k in
    pairs_more 8 (λ i. i / 2) (moved_byte ToGgml bs) 0 c.loop-k.out k _ _ c.loop-k-test.true (c.low_nibbles.ensures ∙ sym (apart_even bs k)) (c.high_nibbles.ensures ∙ sym (apart_odd bs k))
    (λ a b i h. own_neighbours k a b i) c.loop-k.invariant

pub shape_of-out : goal.shape_of-out
shape_of-out c = c.loop-k.invariant.0.0 ∙ sym c.requires.1

pub returns : goal.returns
returns c =
    let l = c.loop-k in
    pairs_all 8 (λ i. i / 2) (moved_byte ToGgml c.args.block.now) 0 l.out l.k c.loop-k-test.false (λ i h. omega arith) l.invariant
