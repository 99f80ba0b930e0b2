-- `payload::same_floats` meets its contract: every float passed is the same. Assumes nothing.
use mathlib.Core.Path.{◌≡◌, sym, ap, ◌∙◌}
use native.Mathlib.Omega.{arith}
use lib.ListN.{length, get_or}
use lib.Ieee.{nan, binary32, of_bits}
use Rattle.memory.proofs.Every.{every_none, every_more, every_not}
use Rattle.replay_answers.specs.Payload.{float_at}
use Rattle.replay_answers.specs.Same.{same_bits, same_floats}
use Rattle.replay_answers.proofs.payload.same_floats.Goals as goal

pub loop-i-init : goal.loop-i-init
loop-i-init c = every_none _

pub returns-then-not-same_bits : goal.returns-then-not-same_bits
unfolding same_floats float_at
returns-then-not-same_bits c =
    let v = c.of_bits.ensures ∙ ap (of_bits binary32) c.u32_at.ensures in
    sym (every_not _ _ c.loop-i.i (omega arith) (sym (c.same_bits.ensures ∙ ap (same_bits (get_or c.args.floats.now c.loop-i.i nan)) v) ∙ c.if-not-same_bits.true))

pub loop-i-preserved : goal.loop-i-preserved
unfolding float_at
loop-i-preserved c =
    let v = c.of_bits.ensures ∙ ap (of_bits binary32) c.u32_at.ensures in
    every_more _ _ c.loop-i.invariant (sym (c.same_bits.ensures ∙ ap (same_bits (get_or c.args.floats.now c.loop-i.i nan)) v) ∙ c.if-not-same_bits.false)

pub returns : goal.returns
unfolding same_floats
returns c =
    let e : c.loop-i.i ≡ length c.args.floats.now = omega arith in
    sym (rw e at c.loop-i.invariant)
