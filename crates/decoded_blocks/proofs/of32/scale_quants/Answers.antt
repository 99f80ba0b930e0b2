-- `of32::scale_quants` meets its contract: in turn e the run of 16 from 16 e on is filled. Assumes nothing.
use mathlib.Core.Path.{◌≡◌, refl, ◌∙◌}
use Prim.Native.Nat.{◌+◌, ◌-◌, ◌*◌}
use lib.IntN.{pos}
use Rattle.memory.proofs.Filled.{part_at}
use native.Mathlib.Omega.{arith}
use Rattle.memory.proofs.Parts.{parts_none, parts_more}
use Rattle.decoded_blocks.proofs.Scaled.{at}
use Rattle.decoded_blocks.proofs.Runs.{run_lengths, runs_done}
use Rattle.decoded_blocks.proofs.of32.scale_quants.Goals as goal

pub loop-e-init : goal.loop-e-init
loop-e-init c =
    let a = c.args in
    parts_none (at a.s a.q.now) a.out.now (λ r. 16 * r) 2 refl

pub scale_run-requires : goal.scale_run-requires
scale_run-requires c =
    run_lengths c.args.q.now c.loop-e.out 2 c.loop-e.e (omega arith) (c.loop-e.invariant.2 ∙ c.requires.1) (omega arith)

pub loop-e-preserved : goal.loop-e-preserved
loop-e-preserved c =
    let a = c.args in
    let q = a.q.now in
    let e = c.loop-e.e in
    let n : 16 * e + 16 - 16 * e ≡ 16 = omega arith in
    parts_more (at a.s q) a.out.now (λ r. 16 * r) 2 _ c.loop-e.out _ e 16 (omega arith) (omega arith) (omega arith) c.scale_run.ensures (λ i g. rw (n, part_at q (16 * e) 16 i (pos 0) g)) c.loop-e.invariant

pub returns : goal.returns
returns c =
    let l = c.loop-e in
    let a = c.args in
    runs_done (at a.s a.q.now) a.out.now l.out 2 l.e c.requires.1 (omega arith) l.invariant
