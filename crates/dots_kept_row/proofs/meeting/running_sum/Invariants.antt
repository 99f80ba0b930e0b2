-- `meeting::running_sum` meets its contract. Assumes nothing.
use mathlib.Core.Path.{◌≡◌}
use Rattle.sums_lanes.specs.Lanes.{values}
use Rattle.dots_kept_row.specs.Meets.{running}
use Rattle.dots_kept_row.proofs.meeting.running_sum.Given as goal

abbrev pub invariant-loop-v : goal.invariant-loop-v
invariant-loop-v l = l.sum ≡ running (values l.x) l.v-index
