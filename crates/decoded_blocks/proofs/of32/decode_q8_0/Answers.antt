-- `of32::decode_q8_0` meets its contract: the places are filled in turn. Assumes nothing.
use Rattle.std.proofs.Common.{rules}
use mathlib.Core.Path.{ap, ◌∙◌}
use mir.Syntax.{w8}
use Rattle.halves.specs.Binary16.{widened}
use Rattle.numbers.proofs.Signed.{read_is}
use Rattle.memory.proofs.Filled.{filling_start, filling_more, filling_done}
use Rattle.layouts.specs.declared.format.Format32.TheVariants.{Q80}
use Rattle.decoded_blocks.proofs.Scaled.{times, at, of_quants, of_scale}
use Rattle.decoded_blocks.proofs.of32.decode_q8_0.Goals as goal

pub loop-k-init : goal.loop-k-init
loop-k-init c =
    filling_start (at c.f16_to_f32-s.result c.quants_q8_0-q.result) c.args.out.now 32 c.requires.1

pub loop-k-preserved : goal.loop-k-preserved
loop-k-preserved c =
    let q = c.quants_q8_0-q.result in
    let s = c.f16_to_f32-s.result in
    filling_more (at s q) c.args.out.now 32 c.loop-k.out c.loop-k.k _ c.requires.1 c.loop-k.invariant c.loop-k-test.true (ap (times s) (read_is w8 _ (search rules)))

pub returns : goal.returns
returns c =
    let q = c.quants_q8_0-q in
    let s = c.f16_to_f32-s in
    let bs = c.args.block.now in
    filling_done (at s.result q.result) c.args.out.now 32 c.loop-k.out c.loop-k.k c.requires.1 c.loop-k.invariant c.loop-k-test.false
    ∙ of_quants Q80 bs s.result q.result q.ensures
    ∙ of_scale Q80 bs s.result (s.ensures ∙ ap widened c.le_u16.ensures)
