-- The weights of the cases that are run only. Definitions only.
use Rattle.std.specs.Prelude.{ℕ, List, ◌∷◌, replicate, Float}
use Rattle.std.specs.Float.{binary32}
use Rattle.std.specs.Float.Ieee.{of_bits}

-- as many ones as a row has places at most
unfoldable pub ones : List Float
ones = replicate 8193 (of_bits binary32 0x3F800000)

-- a Q4_K block whose values are ones: d = 1, dmin = 0, and every scale, minimum and nibble is 1
unfoldable pub block_of_ones : List ℕ
block_of_ones = 0x00 ∷ 0x3C ∷ 0x00 ∷ 0x00 ∷ 1 ∷ 1 ∷ 1 ∷ 1 ∷ replicate 136 0x11
