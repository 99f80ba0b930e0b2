-- `k::scale_q4k` meets its contract. Assumes nothing.
use native.Mathlib.Omega.{arith}
use Rattle.k_scales.proofs.Scales.{scale_low, scale_high}
use Rattle.k_scales.proofs.k.scale_q4k.Goals as goal

pub overflow_mul-result : goal.overflow_mul-result
overflow_mul-result c = omega (arith, c.type_inv.block c.args.j)

pub overflow_add-result-else-j-lt4-2 : goal.overflow_add-result-else-j-lt4-2
overflow_add-result-else-j-lt4-2 c = omega (arith, c.type_inv.block c.args.j)

pub returns-then-j-lt4 : goal.returns-then-j-lt4
returns-then-j-lt4 c = (scale_low c.args.block.now c.args.j c.if-j-lt4.true, omega arith)

pub returns-else-j-lt4 : goal.returns-else-j-lt4
returns-else-j-lt4 c = (scale_high c.args.block.now c.args.j c.if-j-lt4.false, omega (arith, c.type_inv.block c.args.j))
