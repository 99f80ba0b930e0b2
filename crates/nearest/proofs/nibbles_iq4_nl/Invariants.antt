-- `nibbles_iq4_nl` meets its contract: the places are filled in turn. Assumes nothing.
use mathlib.Core.List.{List}
use Prim.Native.Nat.{ℕ}
use lib.Ieee.{Float, nan, binary32, mul}
use lib.ListN.{get_or}
use Rattle.memory.proofs.Filled.{Filling}
use Rattle.nearest.specs.Nearest.{quant_iq4_nl}
use Rattle.nearest.proofs.nibbles_iq4_nl.Given as goal

-- the nibble of reading k
abbrev pub nibble : List Float → Float → ℕ → ℕ
nibble x inverse k = quant_iq4_nl (mul binary32 (get_or x k nan) inverse)

abbrev pub invariant-loop-k : goal.invariant-loop-k
invariant-loop-k l = Filling (nibble l.x l.inverse) l.initial.n 32 l.n l.k
