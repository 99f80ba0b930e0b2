-- `row::decode_within` meets its contract: the block is decoded as a whole, and the places that are asked for are taken from it. Assumes nothing.
use Prim.Native.Nat.{◌+◌}
use lib.ListN.{length, get_or}
use lib.Ieee.{nan}
use Rattle.memory.proofs.Filled.{Filling}
use Rattle.decoded_rows.proofs.row.decode_within.Given as goal

abbrev pub invariant-loop-i : goal.invariant-loop-i
invariant-loop-i l = Filling (λ k. get_or l.whole (l.from + k) nan) l.initial.out (length l.initial.out) l.out l.i
