-- `k::decode_sub_blocks` meets its contract: in turn e the run of 16 from 16 e on is filled. Assumes nothing.
use mathlib.Core.Path.{refl, ◌∙◌}
use Prim.Native.Nat.{◌+◌, ◌-◌, ◌*◌}
use native.Mathlib.Omega.{arith}
use Rattle.memory.proofs.Parts.{parts_none, parts_more}
use Rattle.decoded_blocks.proofs.Runs.{run_lengths, runs_done, sub_block_run}
use Rattle.decoded_blocks.proofs.k.decode_sub_blocks.Invariants.{values}
use Rattle.decoded_blocks.proofs.k.decode_sub_blocks.Goals as goal

pub loop-e-init : goal.loop-e-init
loop-e-init c = let a = c.args in parts_none (values a.block.now a.q.now) a.out.now (λ r. 16 * r) 16 refl

pub scale_run_less-requires : goal.scale_run_less-requires
scale_run_less-requires c =
    let l = c.loop-e in
    run_lengths c.args.q.now l.out 16 l.e c.requires.1 (l.invariant.2 ∙ c.requires.2) (omega arith)

pub loop-e-preserved : goal.loop-e-preserved
loop-e-preserved c =
    let l = c.loop-e in
    let h = c.loop-e-test.true in
    let bs = c.args.block.now in
    let q = c.args.q.now in
    let e = l.e in
    let s = c.scales_and_minimums-both in
    parts_more (values bs q) c.args.out.now (λ r. 16 * r) 16 _ l.out _ e 16 h (omega arith) (omega (arith, c.requires.2)) c.scale_run_less.ensures (λ i g. sub_block_run bs e i (16 * e + 16 - 16 * e) (omega arith) h g s.result q s.ensures) l.invariant

pub shape_of-out : goal.shape_of-out
shape_of-out c = c.loop-e.invariant.2

pub returns : goal.returns
returns c =
    let l = c.loop-e in
    runs_done (values c.args.block.now c.args.q.now) c.args.out.now l.out 16 l.e c.requires.2 (omega arith) l.invariant
