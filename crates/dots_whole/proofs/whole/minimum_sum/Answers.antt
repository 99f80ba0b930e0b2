-- `whole::minimum_sum` meets its contract: a minimum is below 64, and each sum is small. Assumes nothing.
use mathlib.Core.Path.{◌≡◌, ap, ◌∙◌}
use Prim.Native.Nat.{ℕ}
use native.Mathlib.Omega.{arith}
use lib.IntN.{pos, ◌*ℤ◌}
use mir.Syntax.{w8, w32}
use mir.ValLaws.{to_z_pos}
use Rattle.numbers.proofs.Signed.{read_is}
use Rattle.layouts.specs.K.{minimum_q4k}
use Rattle.dots_activation.specs.Whole.{elem}
use Rattle.dots_activation.proofs.Magnitudes.{within}
use Rattle.dots_activation.proofs.Loops.{acc_none, call_fits, call_more}
use Rattle.dots_whole.proofs.whole.minimum_sum.Goals.{After-weighed-m}
use Rattle.dots_whole.proofs.whole.minimum_sum.Goals as goal

pub loop-j-init : goal.loop-j-init
loop-j-init c = acc_none w32 _ 133693440

pub overflow_cast-minimum_q4k : goal.overflow_cast-minimum_q4k
overflow_cast-minimum_q4k c = record { sfits = omega (arith, c.minimum_q4k.ensures.1) }

pub weighed-m-requires : goal.weighed-m-requires
weighed-m-requires c =
    rw (read_is w32 _ c.weighed-arg-1.given) (within (c.requires.2.near c.loop-j.j (omega arith)) (omega arith))

-- the turn's product
turn : (c : After-weighed-m)
    → let a = c.args in
    c.weighed-m.result ≡ pos (minimum_q4k a.w.now c.loop-j.j) *ℤ elem a.sums.now c.loop-j.j
turn c =
    let a = c.args in
    let m = c.minimum_q4k in
    (rw (read_is w32 _ c.weighed-arg-1.given, to_z_pos w8 m.result (omega (arith, m.ensures.1))) at c.weighed-m.ensures.0)
    ∙ ap (λ (u : ℕ). pos u *ℤ elem a.sums.now c.loop-j.j) m.ensures.0

pub overflow_add-m : goal.overflow_add-m
overflow_add-m c = call_fits 8 c.loop-j.invariant c.weighed-m.type_inv (turn c) c.weighed-m.ensures.1 (omega arith) tt

pub loop-j-preserved : goal.loop-j-preserved
loop-j-preserved c = call_more 8 c.loop-j.invariant c.weighed-m.type_inv (turn c) c.weighed-m.ensures.1 (omega arith) tt
