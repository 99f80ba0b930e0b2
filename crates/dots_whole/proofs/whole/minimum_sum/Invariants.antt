-- `whole::minimum_sum` meets its contract: a minimum is below 64, and each sum is small. Assumes nothing.
use Prim.Native.Nat.{ℕ}
use lib.IntN.{pos, ◌*ℤ◌}
use mir.Syntax.{w32}
use Rattle.layouts.specs.K.{minimum_q4k}
use Rattle.dots_activation.specs.Whole.{elem}
use Rattle.dots_activation.proofs.Loops.{Acc}
use Rattle.dots_whole.proofs.whole.minimum_sum.Given as goal

abbrev pub invariant-loop-j : goal.invariant-loop-j
invariant-loop-j l = Acc w32 (λ (k : ℕ). pos (minimum_q4k l.w k) *ℤ elem l.sums k) 133693440 l.j l.m
