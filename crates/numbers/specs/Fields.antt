-- The fields of packed bytes. Definitions only.
use Rattle.std.specs.Prelude.{ℕ, ◌+◌, ◌-◌, ◌*◌, cond, List, ℤ, pos, negsuc, nat_lt, slice_index}

-- the two bytes at i, little-endian
abbrev pub le16 : List ℕ → ℕ → ℕ
le16 bs i = slice_index bs i + 256 * slice_index bs (i + 1)

-- the four bytes at i, little-endian
abbrev pub le32 : List ℕ → ℕ → ℕ
le32 bs i = le16 bs i + 65536 * le16 bs (i + 2)

-- a byte as a signed number, in two's complement
abbrev pub signed : ℕ → ℤ
signed b = cond (nat_lt b 128) (pos b) (negsuc (255 - b))

-- a signed number from -128 to 127 as a byte, in two's complement
abbrev pub byte_of : ℤ → ℕ
byte_of (pos n) = n
byte_of (negsuc n) = 255 - n
