-- `dot::fused_dot` meets its contract: the checks in their order, and the row's sum. Assumes nothing.
use mathlib.Core.Path.{sym, ap}
use Prim.Native.Nat.{◌*◌, ◌/◌}
use lib.ListN.{length}
use borrow.Author.Tests.{lt-ltb, le-ltb, eq-eqb, ne_eqb}
use Rattle.refusals.specs.Refusals.{given}
use Rattle.std.proofs.Common.{Ok}
use Rattle.layouts.specs.declared.format.Format.TheVariants.{OfK}
use Rattle.layouts.proofs.Sizes.{sizes, values_fit}
use Rattle.dots_fused.specs.Says.{fused_says}
use native.Mathlib.Omega.{arith}
use Rattle.dots_fused.proofs.dot.fused_dot.Goals as goal

pub nonzero_rem-over : goal.nonzero_rem-over
nonzero_rem-over c = omega (arith, sizes (OfK c.args.format), c.block_bytes-size.ensures)

pub nonzero_div-found : goal.nonzero_div-found
nonzero_div-found c = omega (arith, sizes (OfK c.args.format), c.block_bytes-size.ensures)

pub overflow_mul-found : goal.overflow_mul-found
overflow_mul-found c =
    record { fits = values_fit c.args.format c.block_bytes-size.result (length c.args.w.now) c.block_bytes-size.ensures (omega arith) }

pub returns-then-n-gt-MOST_IN : goal.returns-then-n-gt-MOST_IN
unfolding fused_says given
returns-then-n-gt-MOST_IN c = simp (lt-ltb _ _ c.if-n-gt-MOST_IN.true)

pub returns-then-over-ne0 : goal.returns-then-over-ne0
unfolding fused_says given
returns-then-over-ne0 c =
    simp (
      sym c.block_bytes-size.ensures,
      le-ltb _ _ c.if-n-gt-MOST_IN.false,
      ne_eqb _ _ c.if-over-ne0.true,
    )

pub returns-then-n-eq0 : goal.returns-then-n-eq0
unfolding fused_says given
returns-then-n-eq0 c =
    simp (
      sym c.block_bytes-size.ensures,
      le-ltb _ _ c.if-n-gt-MOST_IN.false,
      eq-eqb _ _ c.if-over-ne0.false,
      eq-eqb _ _ c.if-n-eq0.true,
    )

pub returns-then-found-n : goal.returns-then-found-n
unfolding fused_says given
returns-then-found-n c =
    let a = c.args in
    simp (
      sym c.block_bytes-size.ensures,
      le-ltb _ _ c.if-n-gt-MOST_IN.false,
      eq-eqb _ _ c.if-over-ne0.false,
      ne_eqb _ _ c.if-n-eq0.false,
      lt-ltb (length a.w.now / c.block_bytes-size.result * 256) a.n (omega arith),
      c.blocks_short.ensures,
      c.blocks_in.ensures,
    )

pub returns-then-x-n : goal.returns-then-x-n
unfolding fused_says given
returns-then-x-n c =
    simp (
      sym c.block_bytes-size.ensures,
      le-ltb _ _ c.if-n-gt-MOST_IN.false,
      eq-eqb _ _ c.if-over-ne0.false,
      ne_eqb _ _ c.if-n-eq0.false,
      le-ltb _ _ c.if-found-n.false,
      lt-ltb _ _ c.if-x-n.true,
    )

pub row_dot-requires : goal.row_dot-requires
row_dot-requires c = (omega arith, omega arith, rw c.block_bytes-size.ensures at c.if-found-n.false)

pub returns : goal.returns
unfolding fused_says given
returns c =
    simp (
      sym c.block_bytes-size.ensures,
      le-ltb _ _ c.if-n-gt-MOST_IN.false,
      eq-eqb _ _ c.if-over-ne0.false,
      ne_eqb _ _ c.if-n-eq0.false,
      le-ltb _ _ c.if-found-n.false,
      le-ltb _ _ c.if-x-n.false,
    )
    (ap Ok c.row_dot.ensures)
