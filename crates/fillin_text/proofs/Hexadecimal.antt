-- The eight hexadecimal digits of 32 bits, one by one. Assumes nothing.
use mathlib.Core.Path.{◌≡◌, refl, ap}
use Prim.Native.Nat.{ℕ, ◌/◌, ◌%◌, ◌^◌, ◌<◌}
use native.Mathlib.Nat.{div-one}
use native.Mathlib.Omega.{arith}
use mathlib.Core.List.{[], ◌∷◌}
use lib.ListN.{length}
use Rattle.memory.specs.Lists.{table}
use Rattle.fillin_text.specs.Text.{hex_digit, hex8, hex_field}

-- a space, the highest digit, six between, the lowest
pub hex_spelt : (bits : ℕ) → bits < 2 ^ 32
    → hex_field bits
    ≡ 32
    ∷ hex_digit (bits / 0x1000_0000)
    ∷ hex_digit (bits / 0x100_0000 % 16)
    ∷ hex_digit (bits / 0x10_0000 % 16)
    ∷ hex_digit (bits / 0x1_0000 % 16)
    ∷ hex_digit (bits / 0x1000 % 16)
    ∷ hex_digit (bits / 0x100 % 16)
    ∷ hex_digit (bits / 0x10 % 16)
    ∷ hex_digit (bits % 16)
    ∷ []
unfolding hex_field hex8 table
hex_spelt bits h =
    let top : bits / 0x1000_0000 % 16 ≡ bits / 0x1000_0000 = omega arith in
    let low : bits / 1 % 16 ≡ bits % 16 = ap (λ (n : ℕ). n % 16) (div-one bits) in
    rw (top, low)

pub length_hex_field : (bits : ℕ) → length (hex_field bits) ≡ 9
unfolding hex_field hex8 table
length_hex_field bits = refl
