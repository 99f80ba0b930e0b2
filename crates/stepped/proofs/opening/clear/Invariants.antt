-- `opening::clear` meets its contract: the places so far are the same. Assumes nothing.
use lib.ListN.{length}
use Rattle.memory.proofs.Filled.{Filling}
use Rattle.stepped.proofs.opening.clear.Given as goal

abbrev pub invariant-loop-place : goal.invariant-loop-place
invariant-loop-place g l = Filling (λ i. l.value) l.initial.places (length l.initial.places) l.places l.place-index
