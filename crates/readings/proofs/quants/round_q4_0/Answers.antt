-- `readings::round_q4_0` meets its contract: what is held is one of 0 to 15. Assumes nothing.
use mathlib.Core.Path.{◌≡◌, ◌∙◌}
use native.Mathlib.Omega.{arith}
use lib.Ieee.{binary32, of_bits, add}
use mir.Syntax.{w32}
use mir.Val.{to_z, of_z}
use Rattle.numbers.specs.Steps.{truncated}
use Rattle.readings.specs.Readings.{quant_q40}
use Rattle.numbers.proofs.Signed.{read_is}
use Rattle.readings.proofs.Held.{UpTo, held_up_to}
use Rattle.readings.proofs.quants.round_q4_0.Goals.{After-held_whole}
use Rattle.readings.proofs.quants.round_q4_0.Goals as goal

quant : (c : After-held_whole) → UpTo 15 (quant_q40 c.args.p)
unfolding quant_q40
quant c = held_up_to 15 (truncated (add binary32 c.args.p (of_bits binary32 0x4108_0000)))

-- what the cast takes
whole : (c : After-held_whole) → to_z w32 (of_z w32 c.held_whole.result) ≡ quant_q40 c.args.p
unfolding quant_q40
whole c = read_is w32 _ c.held_whole.type_inv ∙ c.held_whole.ensures

pub overflow_cast-result : goal.overflow_cast-result
overflow_cast-result c = let q = quant c in rw (whole c, q.is) (tt, record { fits = omega arith })

pub returns : goal.returns
returns c = let q = quant c in rw (whole c, q.is)
