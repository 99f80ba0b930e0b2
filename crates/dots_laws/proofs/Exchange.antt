-- Readings and weights exchanged: the same bits, or NaN both times. Assumes nothing.
use mathlib.Core.Path.{◌≡◌}
use mathlib.Core.List.{List}
use Prim.Native.Nat.{ℕ, ◌≤◌}
use native.Mathlib.Omega.{arith}
use borrow.Author.Tests.{le-ltb}
use lib.ListN.{length, get_or}
use lib.Ieee.{Float, nan, binary32}
use Rattle.refusals.specs.Refusals.{given}
use Rattle.numbers.proofs.FloatLaws.{mul_swap}
use Rattle.sums_lanes.specs.Lanes.{products}
use Rattle.sums.specs.Rows.{row_sum}
use Rattle.sums.specs.Says.{dot_says}
use Rattle.sums.proofs.RowLaws.{row_cong}
use Rattle.dots_laws.specs.Laws.{ExchangeLaw}

row_swap : (x w : List Float) (n : ℕ) → row_sum (products x w) n ≡ row_sum (products w x) n
row_swap x w n = row_cong (products x w) (products w x) n (λ i u. mul_swap binary32 (get_or x i nan) (get_or w i nan))

-- with n values on both sides neither 3 nor 4 is said
dot_swap : (x w : List Float) (n : ℕ) → n ≤ length x → n ≤ length w → dot_says x w n ≡ dot_says w x n
unfolding dot_says given
dot_swap x w n h k = rw (le-ltb (length x) n (omega arith), le-ltb (length w) n (omega arith), row_swap x w n)

pub exchanged : ExchangeLaw
exchanged = record { rows = row_swap; dots = dot_swap }
