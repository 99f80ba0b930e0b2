-- `block::sums_right` meets its contract: every sum passed is right. Assumes nothing.
use mathlib.Core.Path.{◌≡◌}
use mathlib.Core.Bool.{true}
use Prim.Native.Nat.{ℕ, ◌<◌}
use Rattle.memory.specs.Lists.{every}
use Rattle.dots_activation.specs.Whole.{elem, Within}
use Rattle.dots_activation.specs.Blocks.{right_at}
use Rattle.dots_activation.proofs.block.sums_right.Given as goal

abbrev pub invariant-loop-j : goal.invariant-loop-j
invariant-loop-j l = (every (right_at l.qs l.bsums) l.j ≡ true) × ((k : ℕ) → k < l.j → Within 4096 (elem l.bsums k))
