-- The bytes of a quantised block of 32 readings. Definitions only.
use Rattle.std.specs.Prelude.{ℕ, zero, suc, ◌+◌, ◌*◌, ◌/◌, ◌%◌, List, ℤ, pos, get_or, Float}
use Rattle.std.specs.Float.{nan, binary32}
use Rattle.std.specs.Float.Ieee.{mul, div, of_bits, to_bits}
use Rattle.halves.specs.Binary16.{widened}
use Rattle.halves.specs.How.{narrowing}
use Rattle.halves.specs.declared.how.How.TheVariants.{Exact}
use Rattle.halves.specs.declared.how.Narrowed.{Narrowed}
use Rattle.numbers.specs.Fields.{byte_of}
use Rattle.readings.specs.Readings.{largest_value, scale_q8, inverse, quant_q8, quant_q40}
use Rattle.nearest.specs.Nearest.{quant_iq4_nl}
use Rattle.layouts.specs.declared.format.Format32.{Format32}
use Rattle.layouts.specs.declared.format.Format32.TheVariants as format
use Rattle.quantizers.specs.declared.target.Target.{Target}
use Rattle.quantizers.specs.declared.target.Target.TheVariants.{Q40, Q40Ggml, Q80, Iq4Nl}

-- the format of a target's blocks, which has their size
abbrev pub format_of : Target → Format32
format_of Q40 = format.Q40
format_of Q40Ggml = format.Q40Ggml
format_of Q80 = format.Q80
format_of (Iq4Nl s) = format.Iq4Nl

-- Q4_0's d: the first value of largest magnitude over -8
abbrev pub scale_q40 : List Float → Float
scale_q40 xs = div binary32 (largest_value xs 32) (of_bits binary32 0xc100_0000)

-- d. Q4_0: one for both of its orders. Q8_0: that of Q8. IQ4_NL: the decoded value of the scale that is given.
unfoldable pub scale_of : Target → List Float → Float
scale_of Q40 xs = scale_q40 xs
scale_of Q40Ggml xs = scale_q40 xs
scale_of Q80 xs = scale_q8 xs
scale_of (Iq4Nl s) xs = widened s

-- The stored scale, and how it fares: `f32_to_f16` of d; a scale that is given is stored as it is.
unfoldable pub stored_scale : Target → Float → Narrowed
stored_scale Q40 d = narrowing (to_bits binary32 d)
stored_scale Q40Ggml d = narrowing (to_bits binary32 d)
stored_scale Q80 d = narrowing (to_bits binary32 d)
stored_scale (Iq4Nl s) d = record { bits = s; how = Exact }

-- reading i times the inverse, which is of d itself
unfoldable pub scaled_reading : Target → List Float → ℕ → Float
scaled_reading t xs i = mul binary32 (get_or xs i nan) (inverse (scale_of t xs))

-- the quant of reading i; in IQ4_NL the nibble that picks it
unfoldable pub quant_of : Target → List Float → ℕ → ℤ
quant_of Q40 xs i = quant_q40 (scaled_reading Q40 xs i)
quant_of Q40Ggml xs i = quant_q40 (scaled_reading Q40Ggml xs i)
quant_of Q80 xs i = quant_q8 (scaled_reading Q80 xs i)
quant_of (Iq4Nl s) xs i = pos (quant_iq4_nl (scaled_reading (Iq4Nl s) xs i))

-- two quants in one byte: the first in its low and the second in its high nibble
abbrev pub nibbles : ℤ → ℤ → ℕ
nibbles low high = byte_of low + 16 * byte_of high

-- byte k after the scale. Q4_0: the quants of readings 2k and 2k+1. Q4_0 in GGML's order, and IQ4_NL: those of readings
-- k and k+16. Q8_0: that of reading k.
unfoldable pub quant_byte : Target → List Float → ℕ → ℕ
quant_byte Q40 xs k = nibbles (quant_of Q40 xs (2 * k)) (quant_of Q40 xs (2 * k + 1))
quant_byte Q40Ggml xs k = nibbles (quant_of Q40Ggml xs k) (quant_of Q40Ggml xs (k + 16))
quant_byte Q80 xs k = byte_of (quant_of Q80 xs k)
quant_byte (Iq4Nl s) xs k = nibbles (quant_of (Iq4Nl s) xs k) (quant_of (Iq4Nl s) xs (k + 16))

-- byte p of a block: the stored scale, little-endian, and then the quants
unfoldable pub byte_at : Target → List Float → ℕ → ℕ
byte_at t xs zero = (stored_scale t (scale_of t xs)).bits % 256
byte_at t xs (suc zero) = (stored_scale t (scale_of t xs)).bits / 256
byte_at t xs (suc (suc k)) = quant_byte t xs k
