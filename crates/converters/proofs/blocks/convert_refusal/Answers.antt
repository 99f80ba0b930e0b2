-- `blocks::convert_refusal` meets its contract: the checks in their order. Assumes nothing.
use borrow.Author.Tests.{lt-ltb, le-ltb, eq-eqb, ne_eqb}
use Rattle.refusals.specs.Refusals.{given}
use Rattle.converters.specs.Says.{convert_refusal}
use Rattle.converters.proofs.blocks.convert_refusal.Goals as goal

pub returns-then-n-gt-MOST_BYTES : goal.returns-then-n-gt-MOST_BYTES
unfolding convert_refusal given
returns-then-n-gt-MOST_BYTES c = simp (lt-ltb _ _ c.if-n-gt-MOST_BYTES.true)

pub returns-then-n-ne0 : goal.returns-then-n-ne0
unfolding convert_refusal given
returns-then-n-ne0 c = simp (le-ltb _ _ c.if-n-gt-MOST_BYTES.false, ne_eqb _ _ c.if-n-ne0.true)

pub returns-then-room-n : goal.returns-then-room-n
unfolding convert_refusal given
returns-then-room-n c = simp (le-ltb _ _ c.if-n-gt-MOST_BYTES.false, eq-eqb _ _ c.if-n-ne0.false, lt-ltb _ _ c.if-room-n.true)

pub returns : goal.returns
unfolding convert_refusal given
returns c = simp (le-ltb _ _ c.if-n-gt-MOST_BYTES.false, eq-eqb _ _ c.if-n-ne0.false, le-ltb _ _ c.if-room-n.false)
