-- `rows::meet` meets its contract: after c chunks the copy has their slots. Assumes nothing.
use Prim.Native.Nat.{◌+◌}
use lib.ListN.{get_or}
use lib.Ieee.{nan}
use Rattle.memory.proofs.Filled.{Filling}
use Rattle.stepped_pieces.proofs.rows.meet.Given as goal

abbrev pub invariant-loop-c : goal.invariant-loop-c
invariant-loop-c l = Filling (λ i. get_or l.slots (l.at + i) nan) l.initial.sums 16 l.sums l.c
