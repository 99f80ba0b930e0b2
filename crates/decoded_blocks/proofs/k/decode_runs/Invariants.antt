-- `k::decode_runs` meets its contract: in turn e the run of 16 from 16 e on is filled. Assumes nothing.
use Prim.Native.Nat.{ℕ, ◌*◌}
use mathlib.Core.List.{List}
use lib.IntN.{ℤ, pos}
use lib.ListN.{get_or}
use lib.Ieee.{Float}
use Rattle.layouts.specs.K.{value_of}
use Rattle.layouts.specs.declared.format.FormatK.TheVariants.{Q6K}
use Rattle.memory.proofs.Parts.{InParts}
use Rattle.decoded_blocks.proofs.k.decode_runs.Given as goal

abbrev pub values : List ℕ → List ℤ → ℕ → Float
values bs q i = value_of Q6K bs i (get_or q i (pos 0))

abbrev pub invariant-loop-e : goal.invariant-loop-e
invariant-loop-e l = InParts (values l.block l.q) l.initial.out (λ r. 16 * r) 16 l.out l.e
