-- `block::write_quants_iq4_nl` meets its contract: the places are filled in turn, from nibbles. Assumes nothing.
use mathlib.Core.List.{List}
use Prim.Native.Nat.{ℕ}
use lib.Ieee.{Float}
use Rattle.memory.proofs.Filled.{Filling}
use Rattle.quantizers.specs.declared.target.Target.TheVariants.{Iq4Nl}
use Rattle.quantizers.proofs.Bytes.{written}
use Rattle.quantizers.proofs.block.write_quants_iq4_nl.Given as goal

-- what the scale is does not matter here
abbrev pub bytes : List Float → Float → ℕ → ℕ
bytes = written (Iq4Nl 0)

abbrev pub invariant-loop-k : goal.invariant-loop-k
invariant-loop-k l = Filling (bytes l.x l.inverse) l.initial.out 16 l.out l.k
