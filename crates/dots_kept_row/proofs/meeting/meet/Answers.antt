-- `meeting::meet` meets its contract: each meeting its own. Assumes nothing.
use mathlib.Core.Path.{sym, ap, ◌∙◌}
use mathlib.Core.List.{List}
use lib.ListN.{length}
use lib.Ieee.{Float}
use Rattle.sums_lanes.specs.Lanes.{values}
use Rattle.dots_kept_row.specs.declared.meeting.Meeting.{Meeting}
use Rattle.dots_kept_row.specs.Meets.{meets}
use Rattle.dots_kept_row.proofs.Meets.{tree_meets, running_meets}
use Rattle.dots_kept_row.proofs.meeting.meet.Goals as goal

pub returns-in-Tree : goal.returns-in-Tree
returns-in-Tree c =
    let l = c.args.dots.now in
    ap (λ (q : Float × List Float). q.0) c.canonical_combine.ensures ∙ tree_meets l ∙ ap (λ (m : Meeting). meets m (values l) (length l)) (sym c.in-Tree.is)

pub returns-in-Running : goal.returns-in-Running
returns-in-Running c =
    let l = c.args.dots.now in
    c.running_sum.ensures ∙ running_meets l ∙ ap (λ (m : Meeting). meets m (values l) (length l)) (sym c.in-Running.is)
