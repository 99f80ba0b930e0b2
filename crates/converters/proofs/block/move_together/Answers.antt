-- `block::move_together` meets its contract: in turn k the places k and k + 8 are filled. Assumes nothing.
use mathlib.Core.Path.{sym, ◌∙◌}
use Prim.Native.Nat.{◌%◌, ◌<◌}
use lib.ListN.{length-set}
use native.Mathlib.Omega.{arith}
use Rattle.layouts.proofs.Two.{own_halves, pairs_none, pairs_more, pairs_all}
use Rattle.converters.specs.Orders.{moved_byte}
use Rattle.converters.specs.declared.direction.Direction.TheVariants.{FromGgml}
use Rattle.converters.proofs.Moved.{together_first, together_second}
use Rattle.converters.proofs.block.move_together.Goals as goal

pub loop-k-init : goal.loop-k-init
loop-k-init c = pairs_none 8 (λ i. i % 8) (moved_byte FromGgml c.args.block.now) 0 c.args.out.now c.requires.1

pub bounds-out-k-in-loop-k : goal.bounds-out-k-in-loop-k
bounds-out-k-in-loop-k c = rw length-set (omega arith)

pub loop-k-preserved : goal.loop-k-preserved
loop-k-preserved c =
    let bs = c.args.block.now in
    let k = c.loop-k.k in
    let h : k < 8 = c.loop-k-test.true in
    pairs_more 8 (λ i. i % 8) (moved_byte FromGgml bs) 0 c.loop-k.out k _ _ h (c.low_nibbles.ensures ∙ sym (together_first bs k h)) (c.high_nibbles.ensures ∙ sym (together_second bs k h))
    (own_halves 8 k) c.loop-k.invariant

pub shape_of-out : goal.shape_of-out
shape_of-out c = c.loop-k.invariant.0.0 ∙ sym c.requires.1

pub returns : goal.returns
returns c =
    let l = c.loop-k in
    pairs_all 8 (λ i. i % 8) (moved_byte FromGgml c.args.block.now) 0 l.out l.k c.loop-k-test.false (λ i h. omega arith) l.invariant
