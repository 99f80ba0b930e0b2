-- `block::quants_of` meets its contract: zeros, whose front is filled by the readings' quants. Assumes nothing.
use mathlib.Core.Path.{◌≡◌, refl, sym, ap, ◌∙◌}
use mathlib.Core.Bool.{Bool, cond}
use native.Mathlib.Omega.{arith}
use borrow.Author.Tests.{lt-ltb, le-ltb}
use lib.IntN.{pos}
use lib.ListN.{length, get_or, replicate}
use lib.Ieee.{nan, binary32, mul}
use mir.Syntax.{w8}
use Rattle.memory.specs.Lists.{filled}
use Rattle.memory.proofs.Filled.{filling_start, filling_more}
use Rattle.readings.specs.Readings.{quant_q8}
use Rattle.numbers.proofs.Signed.{read_is}
use Rattle.dots_activation.specs.Blocks.{quant_at}
use Rattle.dots_activation.proofs.Zeros.{zeros_behind}
use Rattle.dots_activation.proofs.block.quants_of.Goals as goal

pub loop-i-init : goal.loop-i-init
loop-i-init c = filling_start _ _ 256 refl

pub loop-i-preserved : goal.loop-i-preserved
loop-i-preserved c =
    let l = c.loop-i in
    let a = c.args in
    let here = ap (λ (t : Bool). cond t (quant_q8 (mul binary32 (get_or a.x.now l.i nan) a.inverse)) (pos 0)) (lt-ltb l.i (length a.x.now) (omega arith)) in
    filling_more (quant_at a.x.now a.inverse) (replicate 256 (pos 0)) 256 l.qs l.i _ refl l.invariant (omega arith) (read_is w8 _ c.round_q8.type_inv ∙ c.round_q8.ensures ∙ sym here)

pub returns : goal.returns
returns c =
    let l = c.loop-i in
    let a = c.args in
    let e : l.i ≡ length a.x.now = omega arith in
    l.invariant.0 ∙ ap (filled (quant_at a.x.now a.inverse) (replicate 256 (pos 0))) e
    ∙ zeros_behind (quant_at a.x.now a.inverse) (length a.x.now) 256 (omega arith)
    (λ i h p. ap (λ (t : Bool). cond t (quant_q8 (mul binary32 (get_or a.x.now i nan) a.inverse)) (pos 0)) (le-ltb i (length a.x.now) h))
