-- `readings::ends_with` meets its contract: after some readings the loop holds the ends of those. Assumes nothing.
use mathlib.Core.Path.{◌≡◌, refl, ◌∙◌}
use mathlib.Core.Bool.{Bool, true, false}
use mathlib.Core.List.{List}
use Prim.Native.Nat.{ℕ, ◌+◌}
use native.Mathlib.Numerals.{add-one}
use native.Mathlib.Omega.{arith}
use lib.ListN.{length, get_or}
use lib.Ieee.{Float, nan}
use Rattle.readings.specs.Inner.{further, furthest}
use Rattle.readings.proofs.ends.ends_with.Goals as goal

one_more : (s : Bool) (x : List Float) (i : ℕ) (a : Float) {b : Float} → b ≡ furthest s a x i → further s b (get_or x i nan) ≡ furthest s a x (i + 1)
unfolding furthest
one_more s x i a e = rw (e, add-one)

pub loop-v-init : goal.loop-v-init
unfolding furthest
loop-v-init c = (refl, refl)

pub loop-v-preserved : goal.loop-v-preserved
loop-v-preserved c =
    let x = c.args.x.now in
    let l = c.loop-v in (
      c.larger_of-high.ensures ∙ one_more false x l.v-index c.args.e.high l.invariant.0,
      c.smaller_of-low.ensures ∙ one_more true x l.v-index c.args.e.low l.invariant.1,
    )

pub returns : goal.returns
returns c =
    let e : c.loop-v.v-index ≡ length c.args.x.now = omega arith in
    (rw e at c.loop-v.invariant.0, rw e at c.loop-v.invariant.1)
