-- `k::scales_q6k` meets its contract: the places are filled in turn. Assumes nothing.
use Rattle.layouts.specs.K.{d_scale}
use Rattle.layouts.specs.declared.format.FormatK.TheVariants.{Q6K}
use Rattle.memory.proofs.Filled.{Filling}
use Rattle.k_scales.proofs.k.scales_q6k.Given as goal

abbrev pub invariant-loop-e : goal.invariant-loop-e
invariant-loop-e l = Filling (d_scale Q6K l.block) l.initial.s 16 l.s l.e
