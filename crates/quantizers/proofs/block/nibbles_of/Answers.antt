-- `block::nibbles_of` meets its contract: both quants are nibbles. Assumes nothing.
use Rattle.readings.proofs.Held.{q40_nibble}
use native.Mathlib.Omega.{arith}
use Rattle.quantizers.proofs.block.nibbles_of.Goals as goal

pub overflow_mul-result : goal.overflow_mul-result
overflow_mul-result c = omega (arith, q40_nibble _ _ c.round_q4_0-high.ensures)

pub overflow_add-result : goal.overflow_add-result
overflow_add-result c = omega (arith, q40_nibble _ _ c.round_q4_0-high.ensures, q40_nibble _ _ c.round_q4_0-low.ensures)

pub returns : goal.returns
returns c = rw (← c.round_q4_0-high.ensures, ← c.round_q4_0-low.ensures)
