-- `k::scales_and_minimums` meets its contract: in turn j the places j and j + 8 are filled. Assumes nothing.
use Prim.Native.Nat.{◌%◌}
use lib.Ieee.{nan}
use Rattle.layouts.proofs.Two.{Pairs}
use Rattle.k_scales.specs.Both.{scale_then_minimum}
use Rattle.k_scales.proofs.k.scales_and_minimums.Given as goal

abbrev pub invariant-loop-j : goal.invariant-loop-j
invariant-loop-j l = Pairs 8 (λ i. i % 8) (scale_then_minimum l.block) nan l.s l.j
