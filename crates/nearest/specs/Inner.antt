-- What the contracts of the inner functions cite: the search for the nearest value. Definitions only.
use Rattle.std.specs.Prelude.{ℕ, zero, suc, ◌+◌, cond, ℤ, ◌+ℤ◌}
use Rattle.std.specs.Int.Signed.{lt_z}
use Rattle.layouts.specs.Of32.{value_iq4_nl}

-- 1 where z lies above the middle of two values
unfoldable pub next_is_nearer : ℤ → (value next : ℤ) → ℕ
next_is_nearer z value next = cond (lt_z (value +ℤ next) (z +ℤ z)) 1 0

-- how many of the first k values of the table have a next that is nearer to z
unfoldable pub nearer_next : ℤ → ℕ → ℕ
nearer_next z zero = 0
nearer_next z (suc k) = nearer_next z k + next_is_nearer z (value_iq4_nl k) (value_iq4_nl (k + 1))
