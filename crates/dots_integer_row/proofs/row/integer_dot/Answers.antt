-- `row::integer_dot` meets its contract: the checks in their order, and the row's dot. Assumes nothing.
use Prim.Native.Nat.{◌≤◌}
use native.Mathlib.Nat.{mul-le-mul}
use native.Mathlib.Omega.{arith}
use Rattle.layouts.specs.declared.format.Format.TheVariants.{OfK}
use Rattle.layouts.proofs.Sizes.{sizes}
use Rattle.dots_integer_row.proofs.row.integer_dot.Goals as goal

pub nonzero_rem-w : goal.nonzero_rem-w
nonzero_rem-w c = omega (arith, sizes (OfK c.args.format), c.block_bytes-size.ensures)

pub overflow_mul-needed : goal.overflow_mul-needed
overflow_mul-needed c =
    let few : c.blocks_in-needed.result ≤ 512 = omega (arith, c.blocks_in-needed.ensures) in
    let small : c.block_bytes-size.result ≤ 210 = rw c.block_bytes-size.ensures (sizes (OfK c.args.format)).1 in
    omega (arith, mul-le-mul few small)
