-- `k::scale_run_less` meets its contract: the places are filled in turn. Assumes nothing.
use Prim.Native.Nat.{ℕ}
use mathlib.Core.List.{List}
use lib.IntN.{pos}
use lib.ListN.{get_or}
use lib.Ieee.{Float, binary32, mul, sub, of_int}
use Rattle.memory.proofs.Filled.{Filling}
use Rattle.decoded_blocks.proofs.k.scale_run_less.Given as goal

abbrev pub at : List ℕ → Float → Float → ℕ → Float
at q s m l = sub binary32 (mul binary32 s (of_int binary32 (pos (get_or q l 0)))) m

abbrev pub invariant-loop-l : goal.invariant-loop-l
invariant-loop-l l = Filling (at l.q l.s l.m) l.initial.out 16 l.out l.l
