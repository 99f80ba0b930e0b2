-- What the blocks' scales lost, a block at a time. Assumes nothing.
use mathlib.Core.Path.{◌≡◌}
use Prim.Native.Nat.{ℕ, zero, suc, ◌+◌, ◌-◌, ◌*◌, ◌≤◌}
use native.Mathlib.Numerals.{add-one}
use native.Mathlib.Omega.{arith}
use mathlib.Core.List.{List}
use lib.ListN.{take, drop}
use lib.Ieee.{Float}
use Rattle.memory.specs.Lists.{part}
use Rattle.halves.specs.declared.how.How.{How}
use Rattle.halves.specs.declared.how.How.TheVariants.{Exact, Cut, Flushed, SentToInfinity}
use Rattle.quantizers.specs.Lost.{counted, scale_fares, lost_in}
use Rattle.quantizers.specs.declared.lost.Lost.{Lost}
use Rattle.quantizers.specs.declared.target.Target.{Target}

-- one block more is one scale more
pub one_more : (t : Target) (xs : List Float) (b : ℕ) → counted (lost_in t xs b) (scale_fares t (take (b * 32 + 32 - b * 32) (drop (b * 32) xs))) ≡ lost_in t xs (b + 1)
unfolding lost_in
one_more t xs b =
    let d : b * 32 + 32 - b * 32 ≡ 32 = omega arith in
    rw (d, add-one)

-- each count is at most n
abbrev AtMost : ℕ → Lost → Type 0
AtMost n l = (l.flushed ≤ n) × (l.infinite ≤ n)

counted_most : (n : ℕ) (l : Lost) (h : How) → AtMost n l → AtMost (suc n) (counted l h)
counted_most n l Exact m = (omega arith, omega arith)
counted_most n l Cut m = (omega arith, omega arith)
counted_most n l Flushed m = (omega arith, omega arith)
counted_most n l SentToInfinity m = (omega arith, omega arith)

-- no more scales are lost than there are blocks
pub at_most : (t : Target) (xs : List Float) (n : ℕ) → AtMost n (lost_in t xs n)
unfolding lost_in
at_most t xs zero = (omega arith, omega arith)
at_most t xs (suc n) = counted_most n (lost_in t xs n) (scale_fares t (part xs (n * 32) 32)) (at_most t xs n)
