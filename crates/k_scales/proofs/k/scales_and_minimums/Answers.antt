-- `k::scales_and_minimums` meets its contract: in turn j the places j and j + 8 are filled. Assumes nothing.
use mathlib.Core.Path.{refl, ap, ◌∙◌}
use Prim.Native.Nat.{◌%◌}
use lib.ListN.{replicate}
use lib.Ieee.{nan, binary32, of_bits}
use Rattle.halves.specs.Binary16.{widened}
use native.Mathlib.Omega.{arith}
use Rattle.layouts.proofs.Two.{own_halves, pairs_none, pairs_more, pairs_all}
use Rattle.k_scales.specs.Both.{scale_then_minimum}
use Rattle.k_scales.proofs.Both.{scale_first, minimum_behind}
use Rattle.k_scales.proofs.k.scales_and_minimums.Goals as goal

pub loop-j-init : goal.loop-j-init
loop-j-init c = pairs_none 8 (λ i. i % 8) (scale_then_minimum c.args.block.now) nan (replicate 16 (of_bits binary32 0)) refl

pub loop-j-preserved : goal.loop-j-preserved
loop-j-preserved c =
    let bs = c.args.block.now in
    let j = c.loop-j.j in
    let h = c.loop-j-test.true in
    pairs_more 8 (λ i. i % 8) (scale_then_minimum bs) nan c.loop-j.s j _ _ h
    (rw (c.f16_to_f32-d.ensures ∙ ap widened c.le_u16.ensures, c.scale_q4k.ensures.0, scale_first bs j h))
    (rw (c.f16_to_f32-dmin.ensures ∙ ap widened c.le_u16-2.ensures, c.minimum_q4k.ensures.0, minimum_behind bs j h)) (own_halves 8 j) c.loop-j.invariant

pub returns : goal.returns
returns c =
    let l = c.loop-j in
    let bs = c.args.block.now in
    pairs_all 8 (λ i. i % 8) (scale_then_minimum bs) nan l.s l.j c.loop-j-test.false (λ i h. omega arith) l.invariant
