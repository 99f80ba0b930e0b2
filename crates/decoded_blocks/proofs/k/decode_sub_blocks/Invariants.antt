-- `k::decode_sub_blocks` meets its contract: in turn e the run of 16 from 16 e on is filled. Assumes nothing.
use Prim.Native.Nat.{ℕ, ◌*◌}
use mathlib.Core.List.{List}
use lib.IntN.{pos}
use lib.ListN.{get_or}
use lib.Ieee.{Float}
use Rattle.layouts.specs.K.{value_of}
use Rattle.layouts.specs.declared.format.FormatK.TheVariants.{Q4K}
use Rattle.memory.proofs.Parts.{InParts}
use Rattle.decoded_blocks.proofs.k.decode_sub_blocks.Given as goal

abbrev pub values : List ℕ → List ℕ → ℕ → Float
values bs q i = value_of Q4K bs i (pos (get_or q i 0))

abbrev pub invariant-loop-e : goal.invariant-loop-e
invariant-loop-e l = InParts (values l.block l.q) l.initial.out (λ r. 16 * r) 16 l.out l.e
