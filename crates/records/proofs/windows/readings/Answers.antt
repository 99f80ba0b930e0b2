-- `windows::readings` meets its contract: the first k places are filled. Assumes nothing.
use native.Mathlib.Omega.{arith}
use mathlib.Core.Path.{refl, ap, ◌∙◌}
use lib.Ieee.{binary32, of_bits}
use Rattle.memory.proofs.Filled.{filling_start, filling_more}
use Rattle.records.specs.Kinds.{reading_at}
use Rattle.records.proofs.windows.readings.Goals as goal

pub loop-k-init : goal.loop-k-init
loop-k-init c = filling_start _ _ _ refl

pub loop-k-preserved : goal.loop-k-preserved
unfolding reading_at
loop-k-preserved c =
    let l = c.loop-k in
    filling_more _ _ _ l.x l.k _ refl l.invariant (omega arith) (c.of_bits.ensures ∙ ap (of_bits binary32) c.bits_at.ensures)
