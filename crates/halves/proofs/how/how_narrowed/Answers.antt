-- `how::how_narrowed` meets its contract: a case for each return. Assumes nothing.
use native.Mathlib.Omega.{arith}
use Rattle.halves.proofs.Fares.{zero_is_exact, small_is_flushed, infinity_is_exact, large_is_sent, kept_is_exact, rest_is_cut}
use Rattle.halves.proofs.how.how_narrowed.Goals as goal

pub returns-then-magnitude-eq0 : goal.returns-then-magnitude-eq0
returns-then-magnitude-eq0 c = zero_is_exact _ (omega arith) (omega arith) (omega arith)

pub returns-then-exp-le112 : goal.returns-then-exp-le112
returns-then-exp-le112 c = small_is_flushed _ (omega arith) (omega arith) (λ e. omega arith)

pub returns-then-magnitude-eq2139095040 : goal.returns-then-magnitude-eq2139095040
returns-then-magnitude-eq2139095040 c = infinity_is_exact _ (omega arith) (omega arith)

pub returns-then-exp-ge143 : goal.returns-then-exp-ge143
returns-then-exp-ge143 c = large_is_sent _ (omega arith) (omega arith) (λ e. omega arith)

pub returns-then-bits-eq0 : goal.returns-then-bits-eq0
returns-then-bits-eq0 c = kept_is_exact _ (omega arith) (omega arith) (omega arith) (omega arith)

pub returns : goal.returns
returns c = rest_is_cut _ (omega arith) (omega arith) (omega arith) (λ e. omega arith)
