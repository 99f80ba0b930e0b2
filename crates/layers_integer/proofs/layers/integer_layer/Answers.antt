-- `layers::integer_layer` meets its contract: a refusal, or every output. Assumes nothing.
use mathlib.Core.Path.{ap, ◌∙◌}
use mathlib.Core.List.{List}
use lib.Ieee.{Float}
use native.Mathlib.Nat.{le_refl}
use native.Mathlib.Omega.{arith}
use Rattle.refusals.specs.Said.{done}
use Rattle.refusals.proofs.Laws.{check_passed, refused_out, done_out}
use Rattle.layers_shape.proofs.Fits.{fits}
use Rattle.layers_integer.specs.Says.{integer_layer_says}
use Rattle.layers_integer.proofs.layers.integer_layer.Goals as goal

pub rows_of-requires : goal.rows_of-requires
rows_of-requires c =
    let ok = check_passed c.in_ok-layer_refusal.ensures in
    (ok, omega (arith, (fits _ _ _ _ _ ok).within.in_in), le_refl _)

pub rows_of-requires-else-s-gt4096 : goal.rows_of-requires-else-s-gt4096
rows_of-requires-else-s-gt4096 c = (check_passed c.in_ok-layer_refusal.ensures, omega arith, omega arith)

pub returns-in_err-layer_refusal : goal.returns-in_err-layer_refusal
unfolding integer_layer_says
returns-in_err-layer_refusal c = refused_out _ _ c.in_err-layer_refusal.ensures c.from_residual.ensures.1

pub returns-then-s-gt4096 : goal.returns-then-s-gt4096
unfolding integer_layer_says
returns-then-s-gt4096 c = ap (λ (y : List Float). (done, y)) c.rows_of.ensures ∙ done_out _ _ c.in_ok-layer_refusal.ensures

pub returns-else-s-gt4096 : goal.returns-else-s-gt4096
unfolding integer_layer_says
returns-else-s-gt4096 c = ap (λ (y : List Float). (done, y)) c.rows_of-else-s-gt4096.ensures ∙ done_out _ _ c.in_ok-layer_refusal.ensures
