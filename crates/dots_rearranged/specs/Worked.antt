-- Beside the law a row that the fused dot answers otherwise: one Q4_K block in which two channels are put together.
-- Definitions only.
use Rattle.std.specs.Prelude.{◌≡◌, List, [], ◌∷◌, ◌++◌, ℕ, replicate, Float, Ok}
use Rattle.std.specs.Float.{binary32}
use Rattle.std.specs.Float.Ieee.{of_bits}
use Rattle.numbers.specs.Steps.{nought}
use Rattle.layouts.specs.declared.format.FormatK.TheVariants.{Q4K}
use Rattle.dots_fused.specs.Says.{fused_says}
use Rattle.dots_rearranged.specs.Orders.{two_channels}
use Rattle.dots_rearranged.specs.Moved.{moved_weights, moved_readings}

-- in every sub-block of 32
abbrev pub channels : ℕ → List ℕ
channels r = two_channels 32

-- d = 1, dmin = 0; sub-block 0 has scale 1 and eight quants from place 0 on, and eight more; all else is 0
unfoldable pub weights_of : List ℕ → List ℕ → List ℕ
weights_of first then = 0x00 ∷ 0x3c ∷ 0x00 ∷ 0x00 ∷ 1 ∷ replicate 11 0 ++ first ++ then ++ replicate 112 0

-- eight readings from place 0 on, and eight more; all others are +0.0
unfoldable pub readings_of : List Float → List Float → List Float
readings_of first then = first ++ then ++ replicate 240 nought

-- 2^23
abbrev pub large : Float
large = of_bits binary32 0x4b00_0000

-- 1.0
abbrev pub one : Float
one = of_bits binary32 0x3f80_0000

-- quants 2, 1, 1 at places 0, 4 and 12
abbrev pub weights_before : List ℕ
weights_before = weights_of (2 ∷ 0 ∷ 0 ∷ 0 ∷ 1 ∷ 0 ∷ 0 ∷ 0 ∷ []) (0 ∷ 0 ∷ 0 ∷ 0 ∷ 1 ∷ 0 ∷ 0 ∷ 0 ∷ [])

-- readings 2^23, 1.0, 1.0 at the same places
abbrev pub readings_before : List Float
readings_before =
    readings_of (large ∷ nought ∷ nought ∷ nought ∷ one ∷ nought ∷ nought ∷ nought ∷ [])
    (nought ∷ nought ∷ nought ∷ nought ∷ one ∷ nought ∷ nought ∷ nought ∷ [])

-- the same quants at places 0, 2 and 6
abbrev pub weights_after : List ℕ
weights_after = weights_of (2 ∷ 0 ∷ 1 ∷ 0 ∷ 0 ∷ 0 ∷ 1 ∷ 0 ∷ []) (replicate 8 0)

-- and the same readings
abbrev pub readings_after : List Float
readings_after =
    readings_of (large ∷ nought ∷ one ∷ nought ∷ nought ∷ nought ∷ one ∷ nought ∷ []) (replicate 8 nought)

-- Places 4 and 12 fall to one lane, where 1 and 1 meet as 2, which is kept beside 2^24. Places 2 and 6 fall to two
-- lanes; there each 1 meets 2^24 by itself, and is lost to rounding.
pub record FusedRow : Type 0 where
  pub weights : moved_weights Q4K channels 1 weights_before ≡ weights_after
  pub readings : moved_readings Q4K channels 1 readings_before ≡ readings_after
  pub before : fused_says Q4K readings_before weights_before 256 ≡ Ok (of_bits binary32 0x4b80_0001)
  pub after : fused_says Q4K readings_after weights_after 256 ≡ Ok (of_bits binary32 0x4b80_0000)
