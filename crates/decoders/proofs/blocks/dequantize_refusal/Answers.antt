-- `blocks::dequantize_refusal` meets its contract: the checks in their order. Assumes nothing.
use borrow.Author.Tests.{lt-ltb, le-ltb, eq-eqb, ne_eqb}
use Rattle.refusals.specs.Refusals.{given}
use native.Mathlib.Omega.{arith}
use Rattle.decoders.specs.Says.{dequantize_refusal}
use Rattle.memory.proofs.Parts.{few}
use Rattle.layouts.proofs.Sizes.{sizes}
use Rattle.decoders.proofs.blocks.dequantize_refusal.Goals as goal

pub returns-then-n-gt-MOST_BYTES : goal.returns-then-n-gt-MOST_BYTES
unfolding dequantize_refusal given
returns-then-n-gt-MOST_BYTES c = simp (lt-ltb _ _ c.if-n-gt-MOST_BYTES.true)

pub nonzero_rem-n : goal.nonzero_rem-n
nonzero_rem-n c = omega (arith, sizes c.args.format, c.block_bytes-size.ensures)

pub returns-then-n-size-ne0 : goal.returns-then-n-size-ne0
unfolding dequantize_refusal given
returns-then-n-size-ne0 c = simp (le-ltb _ _ c.if-n-gt-MOST_BYTES.false, ne_eqb _ _ (rw c.block_bytes-size.ensures at c.if-n-size-ne0.true))

pub nonzero_div-n : goal.nonzero_div-n
nonzero_div-n c = omega (arith, sizes c.args.format, c.block_bytes-size.ensures)

pub overflow_mul-n : goal.overflow_mul-n
overflow_mul-n c = record { fits = few c.args.n c.block_bytes-size.result c.block_values.result c.if-n-gt-MOST_BYTES.false (omega (arith, sizes c.args.format, c.block_values.ensures)) }

pub returns-then-room-n : goal.returns-then-room-n
unfolding dequantize_refusal given
returns-then-room-n c =
    let S = c.block_bytes-size.ensures in
    simp (le-ltb _ _ c.if-n-gt-MOST_BYTES.false, eq-eqb _ _ (rw S at c.if-n-size-ne0.false), lt-ltb _ _ (rw (S, c.block_values.ensures) at c.if-room-n.true))

pub returns : goal.returns
unfolding dequantize_refusal given
returns c =
    let S = c.block_bytes-size.ensures in
    simp (le-ltb _ _ c.if-n-gt-MOST_BYTES.false, eq-eqb _ _ (rw S at c.if-n-size-ne0.false), le-ltb _ _ (rw (S, c.block_values.ensures) at c.if-room-n.false))
