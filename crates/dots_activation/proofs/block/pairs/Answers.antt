-- `block::pairs` meets its contract: in turn l the eight places l, 16 + l, .. are filled. Assumes nothing.
use Prim.Native.Nat.{ℕ, ◌+◌}
use native.Mathlib.Omega.{arith}
use lib.IntN.{ℤ}
use Rattle.dots_activation.specs.Whole.{elem}
use Rattle.dots_activation.specs.Inner.{pair_of}
use Rattle.dots_activation.proofs.Sixteen.{streamed_more, streamed_all, pair_stored}
use Rattle.dots_activation.proofs.block.pairs.Goals as goal

pub loop-l-preserved : goal.loop-l-preserved
loop-l-preserved c =
    let l = c.loop-l.l in
    let q : ℕ → ℤ = elem c.args.qs.now in
    streamed_more (pair_of q) 256 c.loop-l.t l (omega arith)
    (pair_stored q l l c.pair.type_inv c.pair.ensures (omega arith))
    (pair_stored q (16 + l) (32 + l) c.pair-in-loop-l.type_inv c.pair-in-loop-l.ensures (omega arith))
    (pair_stored q (32 + l) (64 + l) c.pair-in-loop-l-2.type_inv c.pair-in-loop-l-2.ensures (omega arith))
    (pair_stored q (48 + l) (96 + l) c.pair-in-loop-l-3.type_inv c.pair-in-loop-l-3.ensures (omega arith))
    (pair_stored q (64 + l) (128 + l) c.pair-in-loop-l-4.type_inv c.pair-in-loop-l-4.ensures (omega arith))
    (pair_stored q (80 + l) (160 + l) c.pair-in-loop-l-5.type_inv c.pair-in-loop-l-5.ensures (omega arith))
    (pair_stored q (96 + l) (192 + l) c.pair-in-loop-l-6.type_inv c.pair-in-loop-l-6.ensures (omega arith))
    (pair_stored q (112 + l) (224 + l) c.pair-in-loop-l-7.type_inv c.pair-in-loop-l-7.ensures (omega arith))
    c.loop-l.invariant

pub returns : goal.returns
returns c =
    let l = c.loop-l in
    let r = streamed_all (pair_of (elem c.args.qs.now)) 256 l.t l.l (omega arith) l.invariant in
    (r.0, record { near = r.1 })
