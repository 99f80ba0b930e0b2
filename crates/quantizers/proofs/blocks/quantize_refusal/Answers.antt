-- `blocks::quantize_refusal` meets its contract: the checks in their order. Assumes nothing.
use mathlib.Core.Path.{◌≡◌, ap, ◌∙◌}
use borrow.Author.Tests.{lt-ltb, le-ltb, eq-eqb, ne_eqb}
use Rattle.refusals.specs.Refusals.{given}
use native.Mathlib.Omega.{arith}
use Rattle.quantizers.specs.Says.{quantize_refusal}
use Rattle.layouts.specs.Formats.{bytes32}
use Rattle.layouts.proofs.Sizes.{least_32}
use Rattle.quantizers.specs.Blocks.{format_of}
use Rattle.memory.proofs.Parts.{few}
use Rattle.quantizers.proofs.blocks.quantize_refusal.Goals.{After-block_bytes}
use Rattle.quantizers.proofs.blocks.quantize_refusal.Goals as goal

pub returns-then-n-gt-MOST_FLOATS : goal.returns-then-n-gt-MOST_FLOATS
unfolding quantize_refusal given
returns-then-n-gt-MOST_FLOATS c = simp (lt-ltb _ _ c.if-n-gt-MOST_FLOATS.true)

pub returns-then-n-ne0 : goal.returns-then-n-ne0
unfolding quantize_refusal given
returns-then-n-ne0 c = simp (le-ltb _ _ c.if-n-gt-MOST_FLOATS.false, ne_eqb _ _ c.if-n-ne0.true)

-- the size is that of the target's format
size_is : (c : After-block_bytes) → c.block_bytes.result ≡ bytes32 (format_of c.args.target)
size_is c = c.block_bytes.ensures ∙ ap bytes32 c.format_of.ensures

pub overflow_mul-n : goal.overflow_mul-n
overflow_mul-n c =
    record { fits = few c.args.n 32 c.block_bytes.result (omega (arith, c.if-n-gt-MOST_FLOATS.false)) (omega (arith, least_32 (format_of c.args.target), size_is c)) }

pub returns-then-room-n : goal.returns-then-room-n
unfolding quantize_refusal given
returns-then-room-n c = simp (le-ltb _ _ c.if-n-gt-MOST_FLOATS.false, eq-eqb _ _ c.if-n-ne0.false, lt-ltb _ _ (rw (size_is c.before) at c.if-room-n.true))

pub returns : goal.returns
unfolding quantize_refusal given
returns c = simp (le-ltb _ _ c.if-n-gt-MOST_FLOATS.false, eq-eqb _ _ c.if-n-ne0.false, le-ltb _ _ (rw (size_is c.before) at c.if-room-n.false))
