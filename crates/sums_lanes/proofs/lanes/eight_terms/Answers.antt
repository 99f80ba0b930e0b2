-- `lanes::eight_terms` meets its contract. Assumes nothing.
use native.Mathlib.Omega.{arith}
use Prim.Native.Nat.{◌+◌}
use Rattle.sums_lanes.proofs.LaneLaws.{adding_start, adding_more}
use Rattle.sums_lanes.proofs.lanes.eight_terms.Goals as goal

pub loop-i-init : goal.loop-i-init
loop-i-init g c = adding_start c.args.l _ c.args.count (omega arith)

pub loop-i-preserved : goal.loop-i-preserved
loop-i-preserved g c =
    let s = c.args.s in
    rw (c.requires.1.1.1 (s + c.loop-i.i) c.term.result (omega arith) c.term.ensures)
    (adding_more c.args.l (λ i. g.p (s + i)) c.args.count c.loop-i.out c.loop-i.i (omega arith) (omega arith) c.loop-i.invariant)
