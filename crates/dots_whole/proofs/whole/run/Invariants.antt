-- `whole::run` meets its contract: 16 products, each within 16384. Assumes nothing.
use Prim.Native.Nat.{ℕ, ◌+◌, ◌*◌}
use lib.IntN.{◌*ℤ◌}
use mir.Syntax.{w32}
use Rattle.dots_activation.specs.Whole.{elem}
use Rattle.dots_activation.proofs.Loops.{Acc}
use Rattle.dots_whole.proofs.whole.run.Given as goal

abbrev pub invariant-loop-l : goal.invariant-loop-l
invariant-loop-l l = Acc w32 (λ (i : ℕ). elem l.q (16 * l.e + i) *ℤ elem l.x (16 * l.e + i)) 16384 l.l l.s
