-- `lanes::canonical_chunk` meets its contract. Assumes nothing.
use mathlib.Core.Path.{ap}
use borrow.Author.Tests.{lt-ltb, le-ltb}
use Rattle.refusals.specs.Refusals.{given}
use Rattle.std.proofs.Common.{Ok}
use Rattle.sums_lanes.specs.Says.{chunk_says}
use Rattle.sums_lanes.proofs.lanes.canonical_chunk.Goals as goal

pub returns-then-n-gt-MOST_FLOATS : goal.returns-then-n-gt-MOST_FLOATS
unfolding chunk_says given
returns-then-n-gt-MOST_FLOATS c = simp (lt-ltb _ _ c.if-n-gt-MOST_FLOATS.true)

pub returns-then-w-n : goal.returns-then-w-n
unfolding chunk_says given
returns-then-w-n c = simp (le-ltb _ _ c.if-n-gt-MOST_FLOATS.false, lt-ltb _ _ c.if-w-n.true)

pub returns : goal.returns
unfolding chunk_says given
returns c = simp (le-ltb _ _ c.if-n-gt-MOST_FLOATS.false, le-ltb _ _ c.if-w-n.false) (ap Ok c.chunk_dot.ensures)
