-- `block::sum_of_32` meets its contract: 8 turns of two pairs, each turn within 512. Assumes nothing.
use Prim.Native.Nat.{ℕ, ◌+◌, ◌*◌}
use lib.IntN.{◌+ℤ◌}
use mir.Syntax.{w16}
use Rattle.dots_activation.specs.Whole.{elem}
use Rattle.dots_activation.proofs.Loops.{Acc}
use Rattle.dots_activation.proofs.block.sum_of_32.Given as goal

abbrev pub invariant-loop-l : goal.invariant-loop-l
invariant-loop-l l = Acc w16 (λ (i : ℕ). elem l.pairs (16 * l.j + i) +ℤ elem l.pairs (16 * l.j + (8 + i))) 512 l.l l.s
