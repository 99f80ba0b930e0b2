-- `k::minimum_q4k` meets its contract. Assumes nothing.
use Prim.Native.Nat.{◌+◌}
use native.Mathlib.Omega.{arith}
use Rattle.k_scales.proofs.Scales.{minimum_low, minimum_high}
use Rattle.k_scales.proofs.k.minimum_q4k.Goals as goal

pub overflow_mul-result : goal.overflow_mul-result
overflow_mul-result c = omega (arith, c.type_inv.block (4 + c.args.j))

pub overflow_add-result-else-j-lt4-3 : goal.overflow_add-result-else-j-lt4-3
overflow_add-result-else-j-lt4-3 c = omega (arith, c.shared_slice_known-else-j-lt4-1.given (8 + c.args.j), c.type_inv.block (4 + c.args.j))

pub returns-then-j-lt4 : goal.returns-then-j-lt4
returns-then-j-lt4 c = (minimum_low c.args.block.now c.args.j c.if-j-lt4.true, omega arith)

pub returns-else-j-lt4 : goal.returns-else-j-lt4
returns-else-j-lt4 c = (minimum_high c.args.block.now c.args.j c.if-j-lt4.false, omega (arith, c.shared_slice_known-else-j-lt4-1.given (8 + c.args.j), c.type_inv.block (4 + c.args.j)))
