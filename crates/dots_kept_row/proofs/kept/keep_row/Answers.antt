-- `kept::keep_row` meets its contract: one block a turn. Assumes nothing.
use mathlib.Core.Path.{◌≡◌, ap, ◌∙◌}
use Prim.Native.Nat.{ℕ, ◌+◌, ◌-◌, ◌*◌, ◌/◌}
use native.Mathlib.Omega.{arith}
use lib.ListN.{length, take, drop}
use Rattle.dots_activation.specs.Blocks.{block_of}
use Rattle.dots_kept_row.specs.Inner.{kept_of}
use Rattle.dots_kept_row.proofs.Blocks.{keeps_none, keeps_more}
use Rattle.dots_kept_row.proofs.kept.keep_row.Goals as goal

pub loop-t-init : goal.loop-t-init
loop-t-init c = keeps_none _ _

pub loop-t-preserved : goal.loop-t-preserved
loop-t-preserved c =
    let x = c.args.x.now in
    let l = c.loop-t in
    let from = 256 * l.t in
    let width : from + 256 - from ≡ 256 = omega arith in
    keeps_more x l.kept l.t _ l.invariant (omega arith)
    (ap kept_of (c.quantized_block-block.ensures ∙ ap (λ (z : ℕ). block_of (take z (drop from x))) width))

pub returns : goal.returns
returns c =
    let e : c.loop-t.t ≡ length c.args.x.now / 256 = omega arith in
    rw e at c.loop-t.invariant
