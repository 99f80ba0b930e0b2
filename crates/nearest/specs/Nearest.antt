-- The value of IQ4_NL's table that is nearest to a whole number. Definitions only.
use Rattle.std.specs.Prelude.{ℕ, zero, suc, Bool, cond, leb, ℤ, nat_abs, ◌-ℤ◌, Float}
use Rattle.memory.specs.Lists.{every}
use Rattle.layouts.specs.Of32.{value_iq4_nl}
use Rattle.readings.specs.Readings.{quant_q8}

-- whole-number distance
abbrev pub distance : ℤ → ℤ → ℕ
distance a b = nat_abs (a -ℤ b)

-- no value of the table is nearer to z than that of nibble n
unfoldable pub none_nearer : ℤ → ℕ → Bool
none_nearer z n = every (λ m. leb (distance z (value_iq4_nl n)) (distance z (value_iq4_nl m))) 16

-- the first of the nibbles n, n+1, .., k of them, than whose value none is nearer; n+k where there is none
unfoldable pub first_nearest : ℤ → (n k : ℕ) → ℕ
first_nearest z n zero = n
first_nearest z n (suc k) = cond (none_nearer z n) n (first_nearest z (suc n) k)

-- The nibble that picks the value nearest to z. The values rise: of two as near the first is the lower.
abbrev pub nearest : ℤ → ℕ
nearest z = first_nearest z 0 16

-- IQ4_NL, of a reading times the inverse: an integer by the Q8 rule, and then the nibble of the value nearest to that
unfoldable pub quant_iq4_nl : Float → ℕ
quant_iq4_nl p = nearest (quant_q8 p)
