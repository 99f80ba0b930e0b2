-- `whole::lanes_of` meets its contract: a turn adds sub-block j to every lane. Assumes nothing.
use mathlib.Core.Path.{◌≡◌}
use Prim.Native.Nat.{ℕ, ◌+◌, ◌<◌}
use Rattle.memory.specs.Lists.{table}
use Rattle.memory.proofs.Filled.{Filling}
use Rattle.layouts.specs.K.{scale_q4k}
use Rattle.dots_activation.specs.Whole.{sum_ℤ}
use Rattle.dots_whole.specs.Inner.{lane_term}
use Rattle.dots_whole.proofs.whole.lanes_of.Given as goal

abbrev pub invariant-loop-l : goal.invariant-loop-l
invariant-loop-l l = Filling (λ (i : ℕ). sum_ℤ (lane_term l.w l.p i) (l.j + 1)) l.initial.lanes 8 l.lanes l.l

abbrev pub invariant-loop-j : goal.invariant-loop-j
invariant-loop-j l = (l.lanes ≡ table (λ (i : ℕ). sum_ℤ (lane_term l.w l.p i) l.j) 8) × ((k : ℕ) → k < l.j → scale_q4k l.w k < 64)
