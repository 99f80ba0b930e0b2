-- Q6_K's value is (d*scale)*q, and d*(scale*q) is another: with d = 1, a scale of -1 and a whole number of 0 it is -0.0, where 1 * (-1 * 0) is +0.0. Assumes nothing.
use mathlib.Core.Path.{◌≡◌, refl}
use mathlib.Core.List.{List, [], ◌∷◌, ◌++◌}
use Prim.Native.Nat.{ℕ}
use lib.IntN.{◌*ℤ◌}
use lib.ListN.{replicate}
use lib.Ieee.{binary32, mul, round, of_bits, of_int}
use Rattle.halves.specs.Binary16.{widened}
use Rattle.layouts.specs.K.{quant_q6k, scale_q6k, d_of, scale_k, quant_k, value_k}
use Rattle.layouts.specs.declared.format.FormatK.TheVariants.{Q6K}

-- low bytes 0, high bytes with 2 in each bit pair, so that every whole number is 32 - 32; scales -1; d = 1
pub block : List ℕ
block = replicate 128 0 ++ (replicate 64 0xAA ++ (replicate 16 0xFF ++ (0x00 ∷ 0x3C ∷ [])))

pub by_the_layout : value_k Q6K block 0 ≡ of_bits binary32 0x80000000
unfolding block quant_q6k scale_q6k widened mul round of_bits of_int
by_the_layout = refl

pub scale_first : mul binary32 (d_of Q6K block) (of_int binary32 (scale_k Q6K block 0 *ℤ quant_k Q6K block 0)) ≡ of_bits binary32 0x00000000
unfolding block quant_q6k scale_q6k widened mul round of_bits of_int
scale_first = refl
