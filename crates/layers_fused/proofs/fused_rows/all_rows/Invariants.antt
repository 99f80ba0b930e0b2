-- `fused_rows::all_rows` meets its contract: one row of readings a turn, into its own row of the output. Assumes nothing.
use mathlib.Core.Path.{◌≡◌}
use Prim.Native.Nat.{◌*◌, ◌/◌, ◌%◌}
use Rattle.memory.specs.Lists.{filled, part}
use Rattle.layers_fused.specs.Says.{fused_dot_at}
use Rattle.layers_fused.proofs.fused_rows.all_rows.Given as goal

abbrev pub invariant-loop-b : goal.invariant-loop-b
invariant-loop-b l = l.y ≡ filled (λ k. fused_dot_at l.format (part l.x (k / l.outs * l.n) l.n) l.w l.n (k % l.outs)) l.initial.y (l.b * l.outs)
