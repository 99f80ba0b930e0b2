-- `binary16::narrowed_magnitude` meets its contract. Assumes nothing.
use borrow.Author.Tests.{le-leb, lt-leb}
use native.Mathlib.Omega.{arith}
use Rattle.halves.proofs.binary16.narrowed_magnitude.Goals as goal

pub returns-then-exp-le112 : goal.returns-then-exp-le112
returns-then-exp-le112 c = (rw (le-leb _ _ c.if-exp-le112.true), omega arith)

pub returns-then-exp-ge143 : goal.returns-then-exp-ge143
returns-then-exp-ge143 c = (rw (lt-leb _ _ c.if-exp-le112.false, le-leb _ _ c.if-exp-ge143.true), omega arith)

pub returns : goal.returns
returns c = (rw (lt-leb _ _ c.if-exp-le112.false, lt-leb _ _ c.if-exp-ge143.false), omega arith)
