-- `k::scales_q6k` meets its contract: the places are filled in turn. Assumes nothing.
use mathlib.Core.Path.{refl, ap, ◌∙◌}
use mir.Syntax.{w8}
use Rattle.halves.specs.Binary16.{widened}
use Rattle.numbers.proofs.Signed.{read_is}
use Rattle.layouts.specs.K.{scale_q6k, d_scale}
use Rattle.layouts.specs.declared.format.FormatK.TheVariants.{Q6K}
use Rattle.memory.proofs.Filled.{filling_start, filling_more, filling_done}
use Rattle.k_scales.proofs.k.scales_q6k.Goals as goal

pub loop-e-init : goal.loop-e-init
loop-e-init c = filling_start (d_scale Q6K c.args.block.now) _ 16 refl

pub loop-e-preserved : goal.loop-e-preserved
unfolding scale_q6k
loop-e-preserved c =
    let l = c.loop-e in
    let bs = c.args.block.now in
    let h = c.loop-e-test.true in
    filling_more (d_scale Q6K bs) _ 16 l.s l.e _ refl l.invariant h
    (rw (c.f16_to_f32-d.ensures ∙ ap widened c.le_u16.ensures, read_is w8 _ c.signed_byte.type_inv, c.signed_byte.ensures))

pub returns : goal.returns
returns c =
    let l = c.loop-e in
    filling_done (d_scale Q6K c.args.block.now) _ 16 l.s l.e refl l.invariant c.loop-e-test.false
