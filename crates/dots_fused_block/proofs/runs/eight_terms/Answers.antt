-- `runs::eight_terms` meets its contract. Assumes nothing.
use Rattle.std.proofs.Common.{rules}
use mathlib.Core.Path.{sym, ap, ◌∙◌, subst}
use Prim.Native.Nat.{◌+◌}
use lib.ListN.{get_or, set}
use lib.Ieee.{Float, nan, binary32, add, mul, of_int}
use mir.Syntax.{w8}
use Rattle.numbers.proofs.Signed.{read_is}
use Rattle.sums_lanes.proofs.LaneLaws.{Adding, adding_start, adding_more, adding_done}
use Rattle.dots_fused_block.specs.Inner.{run_terms}
use native.Mathlib.Omega.{arith}
use Rattle.dots_fused_block.proofs.runs.eight_terms.Goals as goal

pub loop-i-init : goal.loop-i-init
loop-i-init c = let a = c.args in adding_start a.l (run_terms a.x.now a.q.now a.d) 8 (omega arith)

pub loop-i-preserved : goal.loop-i-preserved
loop-i-preserved c =
    let a = c.args in
    let out = c.loop-i.out in
    let i = c.loop-i.i in
    subst (λ (v : Float). Adding a.l (run_terms a.x.now a.q.now a.d) 8 (set out i (add binary32 (get_or out i nan) (mul binary32 (get_or a.x.now i nan) (mul binary32 a.d v)))) (i + 1))
    (sym (c.to_f32.ensures ∙ ap (of_int binary32) (read_is w8 _ (search rules))))
    (adding_more a.l (run_terms a.x.now a.q.now a.d) 8 out i (omega arith) (omega arith) c.loop-i.invariant)

pub returns : goal.returns
returns c =
    let a = c.args in
    adding_done a.l (run_terms a.x.now a.q.now a.d) 8 c.loop-i.out c.loop-i.i (omega arith) c.loop-i.invariant
