-- `run_cases`: no more cases are wrong than were run.
use Rattle.std.proofs.Common.{◌≤◌}
use Rattle.bench_card.proofs.run_cases.Given as goal

abbrev pub invariant-loop-case : goal.invariant-loop-case
invariant-loop-case g l = l.wrong ≤ l.case
