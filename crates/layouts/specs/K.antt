-- The K layouts, 256 values to a block, over a block's bytes. Definitions only.
use Rattle.std.specs.Prelude.{ℕ, ◌+◌, ◌-◌, ◌*◌, ◌/◌, ◌%◌, ◌^◌, cond, List, ltb, ℤ, pos, ◌-ℤ◌, get_or, Float}
use Rattle.std.specs.Float.{binary32}
use Rattle.std.specs.Float.Ieee.{mul, sub, of_int}
use Rattle.halves.specs.Binary16.{widened}
use Rattle.numbers.specs.Fields.{le16, signed}
use Rattle.layouts.specs.Of32.{nibble}
use Rattle.layouts.specs.Formats.{has_minimums, run_length}
use Rattle.layouts.specs.declared.format.FormatK.{FormatK}
use Rattle.layouts.specs.declared.format.FormatK.TheVariants.{Q4K, Q5K, Q6K}

-- ---- Q4_K: 144 bytes: d, dmin, 12 scale bytes, 128 nibble bytes. Its first 16 bytes are those of every format with
-- minimums

-- scale byte j of the 12
abbrev pub scale_byte : List ℕ → ℕ → ℕ
scale_byte bs j = get_or bs (4 + j) 0

-- For j below 4 the scale is the low six bits of byte j. Otherwise it is the low nibble of byte j+4 plus 16 times the
-- top two bits of byte j-4.
unfoldable pub scale_q4k : List ℕ → ℕ → ℕ
scale_q4k bs j = cond (ltb j 4) (scale_byte bs j % 64) (scale_byte bs (j + 4) % 16 + 16 * (scale_byte bs (j - 4) / 64))

-- For j below 4 the minimum is the low six bits of byte j+4. Otherwise it is the high nibble of byte j+4 plus 16 times
-- the top two bits of byte j.
unfoldable pub minimum_q4k : List ℕ → ℕ → ℕ
minimum_q4k bs j = cond (ltb j 4) (scale_byte bs (j + 4) % 64) (scale_byte bs (j + 4) / 16 + 16 * (scale_byte bs j / 64))

-- Of 128 bytes from `at` on, bytes 32g to 32g+31 hold sub-block 2g low and 2g+1 high: the nibble at place i.
abbrev pub nibble_paired : List ℕ → ℕ → ℕ → ℕ
nibble_paired bs at i = nibble (get_or bs (at + (32 * (i / 64) + i % 32)) 0) (i / 32 % 2)

-- the whole number at place i: its nibble
unfoldable pub quant_q4k : List ℕ → ℕ → ℕ
quant_q4k bs i = nibble_paired bs 16 i

-- ---- Q5_K: 176 bytes: d, dmin, the same 12 scale bytes as Q4_K, 32 bytes of fifth bits, 128 nibble bytes

-- The whole number at place i: its nibble, with its fifth bit above it. Sub-block j takes its fifth bit for place l
-- from bit j of byte l of the 32.
unfoldable pub quant_q5k : List ℕ → ℕ → ℕ
quant_q5k bs i = nibble_paired bs 48 i + 16 * (get_or bs (16 + i % 32) 0 / 2 ^ (i / 32) % 2)

-- ---- Q6_K: 210 bytes: 128 low bytes, 64 high bytes, 16 signed scales, d. Two halves of 128, each with 64 low bytes,
-- 32 high bytes and 8 scales

-- In half h, for l below 32, values l, l+32, l+64, l+96, of quarter t, take the low nibbles of low bytes l and l+32,
-- then their high nibbles, with bit pairs 0, 2, 4, 6 of high byte l above them, less 32.
abbrev pub six_bits : List ℕ → ℕ → ℕ → ℕ → ℤ
six_bits bs h t l = pos
    (nibble (get_or bs (64 * h + (32 * (t % 2) + l)) 0) (t / 2) + 16 * (get_or bs (128 + (32 * h + l)) 0 / 2 ^ (2 * t) % 4))
    -ℤ pos 32

-- the whole number at place i
unfoldable pub quant_q6k : List ℕ → ℕ → ℤ
quant_q6k bs i = six_bits bs (i / 128) (i % 128 / 32) (i % 32)

-- Scales l/16, plus 0, 2, 4, 6: each 16 places take the next. Scale e of the sixteen.
unfoldable pub scale_q6k : List ℕ → ℕ → ℤ
scale_q6k bs e = signed (get_or bs (192 + e) 0)

-- ---- every K format, by its whole numbers and by whether it has minimums

-- the whole number at place i
abbrev pub quant_k : FormatK → List ℕ → ℕ → ℤ
quant_k Q4K bs i = pos (quant_q4k bs i)
quant_k Q5K bs i = pos (quant_q5k bs i)
quant_k Q6K bs i = quant_q6k bs i

-- scale e of a block, a whole number
abbrev pub scale_in : FormatK → List ℕ → ℕ → ℤ
scale_in f bs e = cond (has_minimums f) (pos (scale_q4k bs e)) (scale_q6k bs e)

-- the scale at place i
abbrev pub scale_k : FormatK → List ℕ → ℕ → ℤ
scale_k f bs i = scale_in f bs (i / run_length f)

-- d, the block's scale
abbrev pub d_of : FormatK → List ℕ → Float
d_of f bs = widened (le16 bs (cond (has_minimums f) 0 208))

-- dmin, the scale of the minimums
abbrev pub dmin_of : List ℕ → Float
dmin_of bs = widened (le16 bs 2)

-- d*scale, of scale e
abbrev pub d_scale : FormatK → List ℕ → ℕ → Float
d_scale f bs e = mul binary32 (d_of f bs) (of_int binary32 (scale_in f bs e))

-- dmin*minimum, of minimum j
abbrev pub dmin_minimum : List ℕ → ℕ → Float
dmin_minimum bs j = mul binary32 (dmin_of bs) (of_int binary32 (pos (minimum_q4k bs j)))

-- (d*scale)*q, of a whole number q at place i
abbrev pub scaled_quant : FormatK → List ℕ → ℕ → ℤ → Float
scaled_quant f bs i q = mul binary32 (d_scale f bs (i / run_length f)) (of_int binary32 q)

-- Value, of a whole number q at place i. With minimums: (d*scale)*q - (dmin*minimum); without: (d*scale)*q.
abbrev pub value_of : FormatK → List ℕ → ℕ → ℤ → Float
value_of f bs i q = cond (has_minimums f) (sub binary32 (scaled_quant f bs i q) (dmin_minimum bs (i / run_length f)))
    (scaled_quant f bs i q)

-- the value at place i
abbrev pub value_k : FormatK → List ℕ → ℕ → Float
value_k f bs i = value_of f bs i (quant_k f bs i)
