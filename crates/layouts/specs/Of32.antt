-- The layouts with 32 values to a block, over a block's bytes. f16 fields are little-endian; s is the decoded scale.
-- Definitions only.
use Rattle.std.specs.Prelude.{ℕ, zero, suc, ◌+◌, ◌*◌, ◌/◌, ◌%◌, ◌^◌, List, [], ◌∷◌, ℤ, pos, neg_ℤ, ◌-ℤ◌, get_or, Float}
use Rattle.std.specs.Float.{binary32}
use Rattle.std.specs.Float.Ieee.{mul, of_int}
use Rattle.halves.specs.Binary16.{widened}
use Rattle.numbers.specs.Fields.{le16, le32, signed}
use Rattle.layouts.specs.declared.format.Format32.{Format32}
use Rattle.layouts.specs.declared.format.Format32.TheVariants.{Q40, Q40Ggml, Q50, Q80, Iq4Nl}

-- a byte's low nibble for 0, and its high nibble otherwise
abbrev pub nibble : ℕ → ℕ → ℕ
nibble b zero = b % 16
nibble b (suc k) = b / 16

-- The nibble at place j of 16 bytes from `at` on, each of which has two neighbours: byte k low place 2k and high 2k+1.
abbrev pub nibble_beside : List ℕ → ℕ → ℕ → ℕ
nibble_beside bs at j = nibble (get_or bs (at + j / 2) 0) (j % 2)

-- The nibble at place j of 16 bytes from `at` on, whose low nibbles are places 0 to 15 and whose high ones 16 to 31.
abbrev pub nibble_apart : List ℕ → ℕ → ℕ → ℕ
nibble_apart bs at j = nibble (get_or bs (at + j % 16) 0) (j / 16)

-- -n
abbrev pub minus : ℕ → ℤ
minus n = neg_ℤ (pos n)

-- the sixteen values from which a nibble of IQ4_NL picks
unfoldable pub values_iq4_nl : List ℤ
values_iq4_nl =
    minus 127 ∷ minus 104 ∷ minus 83 ∷ minus 65 ∷ minus 49 ∷ minus 35 ∷ minus 22 ∷ minus 10
    ∷ pos 1 ∷ pos 13 ∷ pos 25 ∷ pos 38 ∷ pos 53 ∷ pos 69 ∷ pos 89 ∷ pos 113 ∷ []

-- the value that nibble n picks
abbrev pub value_iq4_nl : ℕ → ℤ
value_iq4_nl n = get_or values_iq4_nl n (pos 0)

-- The whole number at place j. Q4_0: s, 16 bytes. Byte k gives value 2k from its low and 2k+1 from its high nibble,
-- less 8. Q4_0 in GGML's order: s, 16 bytes. Byte k gives value k from its low and k+16 from its high nibble, less 8.
-- Q5_0: s, a little-endian u32 of high bits, 16 bytes. Value j (below 16) is low nibble j plus 16 times high bit j;
-- value j+16 is high nibble j plus 16 times high bit j+16; less 16. Q8_0: s, 32 signed bytes. IQ4_NL: s, 16 bytes. Low
-- nibble of byte j is value j, high nibble is value j+16; each picks from the sixteen values.
unfoldable pub quant32 : Format32 → List ℕ → ℕ → ℤ
quant32 Q40 bs j = pos (nibble_beside bs 2 j) -ℤ pos 8
quant32 Q40Ggml bs j = pos (nibble_apart bs 2 j) -ℤ pos 8
quant32 Q50 bs j = pos (nibble_apart bs 6 j + 16 * (le32 bs 2 / 2 ^ j % 2)) -ℤ pos 16
quant32 Q80 bs j = signed (get_or bs (2 + j) 0)
quant32 Iq4Nl bs j = value_iq4_nl (nibble_apart bs 2 j)

-- the value at place j: the scale times that number
abbrev pub value32 : Format32 → List ℕ → ℕ → Float
value32 f bs j = mul binary32 (widened (le16 bs 0)) (of_int binary32 (quant32 f bs j))
