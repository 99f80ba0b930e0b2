-- What a pattern stands for, its sign aside, and by that which of four a narrowing was. Definitions only.
use Rattle.std.specs.Prelude.{◌≡◌, ℕ, ◌*◌, ◌%◌, ◌^◌, ◌<◌, Bool, true, false, cond, eqb}
use Rattle.halves.specs.Binary16.{exponent, digits, multiple_of, exponent32, multiple32, narrowed}
use Rattle.halves.specs.declared.how.How.{How}
use Rattle.halves.specs.declared.how.How.TheVariants.{Exact, Cut, Flushed, SentToInfinity}
use Rattle.halves.specs.declared.how.Narrowed.{Narrowed}

-- what a pattern stands for, its sign aside: a whole multiple of 2 ^ -149, an infinity, or no number
pub data Worth : Type 0 where
  finite : ℕ → Worth
  infinite : Worth
  no_number : Worth

-- what a pattern with the exponent's field x, of which `top` is the largest, and the digits t stands for: where it is
-- finite, m
abbrev pub worth_by : (top x t m : ℕ) → Worth
worth_by top x t m = cond (eqb x top) (cond (eqb t 0) infinite no_number) (finite m)

-- what a binary16 pattern stands for, ..
unfoldable pub worth16 : ℕ → Worth
worth16 h = worth_by 31 (exponent h) (digits h) (multiple_of h * 2 ^ 125)

-- .. and a binary32 pattern. A field of 0 has no leading digit: its digits are the multiple.
unfoldable pub worth32 : ℕ → Worth
worth32 b =
    worth_by 255 (exponent32 b) (b % 8388608) (cond (eqb (exponent32 b) 0) (b % 8388608) (multiple32 b))

-- whether it is the number n, ..
abbrev pub is_number : ℕ → Worth → Bool
is_number n (finite m) = eqb m n
is_number n infinite = false
is_number n no_number = false

-- .. an infinity, ..
abbrev pub is_infinite : Worth → Bool
is_infinite (finite m) = false
is_infinite infinite = true
is_infinite no_number = false

-- .. and the value that x is, where x has one
abbrev pub same_as : Worth → Worth → Bool
same_as (finite m) y = is_number m y
same_as infinite y = is_infinite y
same_as no_number y = false

-- Document 02 on `f32_to_f16`, where x went in and y came out. Exact: the half has the number's value, zeros and
-- infinities too. Flushed: a number that is not zero became one. Sent to infinity: a NaN, or a finite number too large.
-- Cut: all else.
unfoldable pub how_from : Worth → Worth → How
how_from x y =
    cond (same_as x y) Exact
    (cond (is_number 0 y) Flushed
    (cond (is_infinite y) SentToInfinity
    Cut))

-- which of the four the narrowing of a binary32 pattern is
unfoldable pub how_narrowed : ℕ → How
how_narrowed b = how_from (worth32 b) (worth16 (narrowed b))

-- what `f32_to_f16` answers: its bits, and which of the four it was
abbrev pub narrowing : ℕ → Narrowed
narrowing b = record { bits = narrowed b; how = how_narrowed b }

-- n is less than the number that x is
abbrev pub LessThan : Worth → ℕ → Type 0
LessThan (finite m) n = n < m
LessThan infinite n = ⊥
LessThan no_number n = ⊥

-- y is a number, and less than the number that x is
abbrev pub Below : (x y : Worth) → Type 0
Below x (finite n) = LessThan x n
Below x infinite = ⊥
Below x no_number = ⊥

-- The same four, each by itself: the half has the number's value; it is a zero and the number is none; it is an infinity
-- and what went in was none; it is a number that is less, and not zero.
abbrev pub Was : How → (x y : Worth) → Type 0
Was Exact x y = x ≡ y
Was Flushed x y = (y ≡ finite 0) × (x ≡ finite 0 → ⊥)
Was SentToInfinity x y = (y ≡ infinite) × (x ≡ infinite → ⊥)
Was Cut x y = Below x y × (y ≡ finite 0 → ⊥)
