-- `meeting::running_sum` meets its contract. Assumes nothing.
use mathlib.Core.Path.{ap, ◌∙◌}
use lib.ListN.{get_or}
use lib.Ieee.{Float, nan, binary32, add}
use Rattle.sums_lanes.specs.Lanes.{values}
use Rattle.dots_kept_row.proofs.Meets.{running_none, running_more}
use Rattle.dots_kept_row.proofs.meeting.running_sum.Goals as goal

pub loop-v-init : goal.loop-v-init
loop-v-init c = running_none _

pub loop-v-preserved : goal.loop-v-preserved
loop-v-preserved c = ap (λ (s : Float). add binary32 s (get_or c.args.x.now c.loop-v.v-index nan)) c.loop-v.invariant ∙ running_more (values c.args.x.now) c.loop-v.v-index
