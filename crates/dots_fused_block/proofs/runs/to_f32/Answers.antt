-- `runs::to_f32` meets its contract. Assumes nothing.
use mathlib.Core.Path.{ap, ◌∙◌}
use mathlib.Core.Bool.{false}
use lib.IntN.{ℤ, pos, nat_abs}
use lib.Ieee.{binary32, fin, sub, of_int, of_bits}
use Rattle.dots_fused_block.proofs.SignedBytes.{above_under, wide_fits, sum_fits, sum_is, back}
use Rattle.dots_fused_block.proofs.runs.to_f32.Goals as goal

pub overflow_cast-result : goal.overflow_cast-result
overflow_cast-result c = wide_fits c.args.q c.ranges.q.sfits

pub overflow_add-result : goal.overflow_add-result
overflow_add-result c = sum_fits c.args.q c.ranges.q.sfits

pub overflow_cast-result-2 : goal.overflow_cast-result-2
overflow_cast-result-2 c = rw (sum_is c.args.q c.ranges.q.sfits) (tt, record { fits = above_under c.args.q c.ranges.q.sfits })

pub returns : goal.returns
unfolding of_bits
returns c =
    let q = c.args.q in
    let h = c.ranges.q.sfits in
    ap (λ (y : ℤ). sub binary32 (of_int binary32 (pos (nat_abs y))) (fin false 1 (pos 7))) (sum_is q h) ∙ back q h
