-- `tree::round` meets its contract. Assumes nothing.
use mathlib.Core.Path.{◌≡◌, refl}
use Prim.Native.Nat.{◌+◌, ◌/◌}
use native.Mathlib.Omega.{arith}
use Rattle.memory.proofs.Filled.{filling_start, filling_more}
use Rattle.sums_tree.proofs.TreeLaws.{sum_at, round_pair, round_odd, round_done}
use Rattle.sums_tree.proofs.tree.round.Goals as goal

pub loop-t-init : goal.loop-t-init
loop-t-init c = filling_start (sum_at c.args.part.now c.args.len) c.args.part.now _ refl

pub loop-t-preserved : goal.loop-t-preserved
loop-t-preserved c =
    let a = c.args in
    let d = a.part.now in
    let l = c.loop-t in
    filling_more (sum_at d a.len) d _ l.part l.t _ refl l.invariant (omega arith) (round_pair d a.len c.requires l.t l.part (omega arith) l.invariant.0)

pub returns-then-pairs-len : goal.returns-then-pairs-len
returns-then-pairs-len c =
    let a = c.args in
    let d = a.part.now in
    let t = a.len / 2 in
    let e : c.loop-t.t ≡ t = omega arith in
    let w = rw e at c.loop-t.invariant in
    let more = filling_more (sum_at d a.len) d _ c.loop-t.part t _ refl w (omega arith) (round_odd d a.len c.requires t c.loop-t.part (omega arith) w.0) in
    record { value = omega arith; part_after = round_done d a.len c.requires (t + 1) _ (omega arith) more.0 }

pub returns : goal.returns
returns c =
    let a = c.args in
    record { value = omega arith; part_after = round_done a.part.now a.len c.requires c.loop-t.t c.loop-t.part (omega arith) c.loop-t.invariant.0 }
