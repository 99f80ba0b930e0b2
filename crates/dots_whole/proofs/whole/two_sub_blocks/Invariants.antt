-- `whole::two_sub_blocks` meets its contract: in turn l the places l and 16 + l are filled. Assumes nothing.
use Prim.Native.Nat.{ℕ, ◌+◌, ◌%◌, ◌<◌}
use lib.IntN.{ℤ, pos}
use Rattle.layouts.proofs.Two.{Pairs}
use Rattle.dots_activation.specs.Whole.{Within}
use Rattle.dots_activation.specs.Inner.{pair_of}
use Rattle.dots_whole.specs.Inner.{product_at}
use Rattle.dots_whole.proofs.whole.two_sub_blocks.Given as goal

-- what the turns before l put at both of their places is within 7936
abbrev pub Near : (ℕ → ℤ) → ℕ → Type 0
Near f l = (k : ℕ) → k < l → Within 7936 (f k) × Within 7936 (f (16 + k))

abbrev pub invariant-loop-l : goal.invariant-loop-l
invariant-loop-l l = Pairs 16 (λ i. i % 16) (pair_of (product_at l.q l.x)) (pos 0) l.p l.l × Near (pair_of (product_at l.q l.x)) l.l
