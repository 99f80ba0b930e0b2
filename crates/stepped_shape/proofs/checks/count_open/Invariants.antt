-- `checks::count_open` meets its contract: after some marks, n of them are open. Assumes nothing.
use mathlib.Core.Path.{◌≡◌}
use Prim.Native.Nat.{◌≤◌}
use lib.ListN.{take}
use Rattle.stepped_shape.specs.Layer.{open_count}
use Rattle.stepped_shape.proofs.checks.count_open.Given as goal

abbrev pub invariant-loop-mark : goal.invariant-loop-mark
invariant-loop-mark l = (l.n ≤ l.mark-index) × (l.n ≡ open_count (take l.mark-index l.marks))
