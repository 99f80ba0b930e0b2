-- Document 01, "Readings to small integers". Definitions only.
use Rattle.std.specs.Prelude.{ℕ, zero, suc, cond, List, ℤ, pos, negsuc, length, get_or, Float}
use Rattle.std.specs.Int.Signed.{lt_z}
use Rattle.std.specs.Float.{nan, binary32}
use Rattle.std.specs.Float.Ieee.{of_bits, lt, le, eq, add, div}
use Rattle.numbers.specs.Steps.{nought, magnitude, truncated}

-- The largest magnitude of the first k readings: it starts at +0.0 and ignores NaN, ..
unfoldable pub largest : List Float → ℕ → Float
largest xs zero = nought
largest xs (suc k) = cond (lt (largest xs k) (magnitude (get_or xs k nan))) (magnitude (get_or xs k nan)) (largest xs k)

-- .. and so does its value: the first value of largest magnitude.
unfoldable pub largest_value : List Float → ℕ → Float
largest_value xs zero = nought
largest_value xs (suc k) = cond (lt (largest xs k) (magnitude (get_or xs k nan))) (get_or xs k nan) (largest_value xs k)

-- Q8: d = largest/127
abbrev pub scale_q8 : List Float → Float
scale_q8 xs = div binary32 (largest xs (length xs)) (of_bits binary32 0x42fe_0000)

-- if d is 0 the inverse is 0, else 1 / d
abbrev pub inverse : Float → Float
inverse d = cond (eq d nought) nought (div binary32 (of_bits binary32 0x3f80_0000) d)

-- z, held within lo and hi
abbrev pub held : ℤ → ℤ → ℤ → ℤ
held lo hi z = cond (lt_z z lo) lo (cond (lt_z hi z) hi z)

-- Q8, of a reading times the inverse: plus 0.5 if that product is at least 0, else minus 0.5; truncate; hold within
-- -127..127.
unfoldable pub quant_q8 : Float → ℤ
quant_q8 p = held (negsuc 126) (pos 127)
    (truncated (add binary32 p (cond (le nought p) (of_bits binary32 0x3f00_0000) (of_bits binary32 0xbf00_0000))))

-- Q4_0, of a reading times the inverse: plus 8.5; truncate; hold within 0..15.
unfoldable pub quant_q40 : Float → ℤ
quant_q40 p = held (pos 0) (pos 15) (truncated (add binary32 p (of_bits binary32 0x4108_0000)))
