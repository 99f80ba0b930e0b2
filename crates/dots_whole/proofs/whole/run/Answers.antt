-- `whole::run` meets its contract: 16 products, each within 16384. Assumes nothing.
use mathlib.Core.Path.{◌≡◌}
use Prim.Native.Nat.{◌+◌, ◌*◌}
use native.Mathlib.Omega.{arith}
use lib.IntN.{◌*ℤ◌}
use mir.Syntax.{w8, w32}
use Rattle.numbers.proofs.Signed.{read_is}
use Rattle.dots_activation.specs.Whole.{elem}
use Rattle.dots_activation.proofs.Loops.{acc_none, call_more}
use Rattle.dots_whole.proofs.whole.run.Goals.{After-product-s}
use Rattle.dots_whole.proofs.whole.run.Goals as goal

pub loop-l-init : goal.loop-l-init
loop-l-init c = acc_none w32 _ 16384

-- the turn's product
turn : (c : After-product-s)
    → let a = c.args in
    let i = 16 * a.e + c.loop-l.l in
    c.product-s.result ≡ elem a.q.now i *ℤ elem a.x.now i
turn c = rw (read_is w8 _ c.product-arg-1.given, read_is w8 _ c.product-arg-in-loop-l-1.given) at c.product-s.ensures.0

pub loop-l-preserved : goal.loop-l-preserved
loop-l-preserved c = call_more 16 c.loop-l.invariant c.product-s.type_inv (turn c) c.product-s.ensures.1 (omega arith) tt
