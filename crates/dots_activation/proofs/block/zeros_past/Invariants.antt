-- `block::zeros_past` meets its contract: every place passed is below n or holds 0, or the answer is no already. Assumes nothing.
use mathlib.Core.Path.{◌≡◌}
use Prim.Native.Nat.{◌+◌}
use Rattle.memory.specs.Lists.{every}
use Rattle.dots_activation.specs.Blocks.{past_is_zero}
use Rattle.dots_activation.proofs.block.zeros_past.Given as goal

abbrev pub invariant-loop-q : goal.invariant-loop-q
invariant-loop-q l = l.zeros ≡ every (past_is_zero l.qs l.n) (l.n + l.q-index)
