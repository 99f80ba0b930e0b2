-- `windows::has_zero` meets its contract: `found` says whether one of the first k values has all bits zero. Assumes nothing.
use mathlib.Core.Path.{◌≡◌}
use Rattle.records.specs.Kinds.{has_zero}
use Rattle.records.proofs.windows.has_zero.Given as goal

abbrev pub invariant-loop-k : goal.invariant-loop-k
invariant-loop-k l = l.found ≡ has_zero l.bytes l.k
