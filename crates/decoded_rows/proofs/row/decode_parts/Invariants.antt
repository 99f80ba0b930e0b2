-- `row::decode_parts` meets its contract: the places of one block a turn. Assumes nothing.
use mathlib.Core.Path.{◌≡◌}
use Prim.Native.Nat.{◌+◌, ◌-◌, ◌≤◌}
use lib.ListN.{length}
use Rattle.memory.specs.Lists.{filled}
use Rattle.layouts.specs.Weights.{weight_at}
use Rattle.decoded_rows.proofs.row.decode_parts.Given as goal

abbrev pub invariant-loop-at : goal.invariant-loop-at
invariant-loop-at l = (l.out ≡ filled (λ i. weight_at l.format l.w (l.from + i)) l.initial.out l.at) × (l.at ≤ l.n) × (length l.out ≡ length l.initial.out)

abbrev pub decreases-loop-at : goal.decreases-loop-at
decreases-loop-at l = l.n - l.at
