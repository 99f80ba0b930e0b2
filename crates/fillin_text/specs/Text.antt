-- Numbers as text, in ASCII, and text laid into a line. Definitions only.
use Rattle.std.specs.Prelude.{ℕ, zero, suc, ◌+◌, ◌-◌, ◌/◌, ◌%◌, ◌^◌, cond, List, [], ◌∷◌, ◌++◌, ltb, length, take, drop}
use Rattle.memory.specs.Lists.{table}

-- ---- decimal

-- the decimal digits of a number that has at most `most` of them, with no zero in front
unfoldable pub decimal_in : (most : ℕ) → ℕ → List ℕ
decimal_in zero n = []
decimal_in (suc most) n = cond (ltb n 10) ((48 + n) ∷ []) (decimal_in most (n / 10) ++ ((48 + n % 10) ∷ []))

-- the decimal digits of a number of 64 bits
unfoldable pub decimal : ℕ → List ℕ
decimal n = decimal_in 20 n

-- a space and a decimal number
unfoldable pub field : ℕ → List ℕ
field n = 32 ∷ decimal n

-- ---- hexadecimal

-- the upper-case digit: `0` to `9`, then `A` to `F`
unfoldable pub hex_digit : ℕ → ℕ
hex_digit d = cond (ltb d 10) (48 + d) (55 + d)

-- eight upper-case hex digits of 32 bits
unfoldable pub hex8 : ℕ → List ℕ
hex8 bits = table (λ k. hex_digit (bits / 16 ^ (7 - k) % 16)) 8

-- a space and the digits
unfoldable pub hex_field : ℕ → List ℕ
hex_field bits = 32 ∷ hex8 bits

-- ---- a line in memory

-- xs with a text in the places from `at` on
unfoldable pub laid : List ℕ → ℕ → List ℕ → List ℕ
laid xs at text = take at xs ++ (text ++ drop (at + length text) xs)
