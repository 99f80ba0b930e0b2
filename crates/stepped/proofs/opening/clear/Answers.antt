-- `opening::clear` meets its contract: the places so far are the same. Assumes nothing.
use native.Mathlib.Omega.{arith}
use mathlib.Core.Path.{refl}
use Rattle.memory.proofs.Filled.{filling_start, filling_more, filling_done}
use Rattle.stepped.proofs.opening.clear.Goals as goal

pub loop-place-init : goal.loop-place-init
loop-place-init g c = filling_start _ _ _ refl

pub loop-place-preserved : goal.loop-place-preserved
loop-place-preserved g c = let l = c.loop-place in filling_more _ _ _ l.places l.place-index _ refl l.invariant (omega arith) refl

pub returns : goal.returns
returns g c = let l = c.loop-place in filling_done _ _ _ l.places l.place-index refl l.invariant (omega arith)
