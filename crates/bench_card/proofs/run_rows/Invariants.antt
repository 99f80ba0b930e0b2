-- `run_rows`: no row is wrong.
use Rattle.std.proofs.Common.{◌≡◌}
use Rattle.bench_card.proofs.run_rows.Given as goal

abbrev pub invariant-loop-number : goal.invariant-loop-number
invariant-loop-number g l = l.wrong ≡ 0
