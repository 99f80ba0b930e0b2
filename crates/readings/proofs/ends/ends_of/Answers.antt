-- `readings::ends_of` meets its contract: the law of the eight lanes on either side, and the rest in order. Assumes nothing.
use mathlib.Core.Path.{◌≡◌, ◌∙◌}
use mathlib.Core.Bool.{true, false}
use Prim.Native.Nat.{◌+◌, ◌*◌, ◌/◌, ◌%◌, ◌≤◌}
use native.Mathlib.Nat.{add-zero, add_assoc}
use native.Mathlib.Omega.{arith}
use lib.ListN.{length}
use Rattle.readings.proofs.EightLanes.{lanes_none, lanes_more, joined}
use Rattle.readings.proofs.ends.ends_of.Goals as goal

pub loop-t-init : goal.loop-t-init
loop-t-init c = let x = c.args.x.now in (lanes_none false x, lanes_none true x)

pub loop-j-init : goal.loop-j-init
loop-j-init c = let l = c.loop-t in (rw add-zero l.invariant.0, rw add-zero l.invariant.1)

pub loop-j-preserved : goal.loop-j-preserved
loop-j-preserved c =
    let x = c.args.x.now in
    let i = 8 * c.loop-t.t in
    let l = c.loop-j in
    let lane : l.j ≡ (i + l.j) % 8 = omega arith in
    let held = c.type_inv.x (i + l.j) in (
      rw (← add_assoc i l.j 1, c.larger_of.ensures) (lanes_more false x l.high (i + l.j) l.j lane held l.invariant.0),
      rw (← add_assoc i l.j 1, c.smaller_of.ensures) (lanes_more true x l.low (i + l.j) l.j lane held l.invariant.1),
    )

pub loop-t-preserved : goal.loop-t-preserved
loop-t-preserved c =
    let l = c.loop-j in
    let last : 8 * c.loop-t.t + l.j ≡ 8 * (c.loop-t.t + 1) = omega arith in
    (rw last at l.invariant.0, rw last at l.invariant.1)

pub returns : goal.returns
returns c =
    let x = c.args.x.now in
    let l = c.loop-t in
    let all : 8 * l.t ≡ 8 * (length x / 8) = omega arith in
    let whole : 8 * (length x / 8) % 8 ≡ 0 = omega arith in
    let inside : 8 * (length x / 8) ≤ length x = omega arith in (
      c.ends_with.ensures.0 ∙ rw c.furthest_of_8.ensures (joined false x l.high _ whole inside c.type_inv.x (rw all at l.invariant.0)),
      c.ends_with.ensures.1 ∙ rw c.furthest_of_8-2.ensures (joined true x l.low _ whole inside c.type_inv.x (rw all at l.invariant.1)),
    )
