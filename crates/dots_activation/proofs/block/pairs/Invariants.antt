-- `block::pairs` meets its contract: in turn l the eight places l, 16 + l, .. are filled. Assumes nothing.
use Rattle.dots_activation.specs.Whole.{elem}
use Rattle.dots_activation.specs.Inner.{pair_of}
use Rattle.dots_activation.proofs.Sixteen.{Streamed}
use Rattle.dots_activation.proofs.block.pairs.Given as goal

abbrev pub invariant-loop-l : goal.invariant-loop-l
invariant-loop-l l = Streamed (pair_of (elem l.qs)) 256 l.t l.l
