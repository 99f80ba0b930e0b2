-- IEEE 754's binary16 by its fields, what it is as a binary32, and what quant.rs makes of a binary32. Definitions only.
use Rattle.std.specs.Prelude.{◌≡◌, ℕ, zero, suc, ◌+◌, ◌-◌, ◌*◌, ◌/◌, ◌%◌, ◌^◌, ◌≤◌, ◌<◌, Bool, cond, leb, eqb, Float}
use Rattle.std.specs.Float.{nan, inf, binary32}
use Rattle.std.specs.Float.Ieee.{round}
use Rattle.std.specs.Float.Ieee.Exact.{HasValue}

-- The three fields of a pattern h below 2 ^ 16: the sign, ..
abbrev pub negative : ℕ → Bool
negative h = leb 32768 h

-- .. the exponent's field, ..
abbrev pub exponent : ℕ → ℕ
exponent h = h / 1024 % 32

-- .. and the digits.
abbrev pub digits : ℕ → ℕ
digits h = h % 1024

-- A finite pattern's magnitude as a whole multiple of 2 ^ -24. A field of 0 has no leading digit, and counts as a field
-- of 1.
abbrev pub multiple : ℕ → ℕ → ℕ
multiple zero t = t
multiple (suc x) t = (1024 + t) * 2 ^ x

-- the same, of a pattern
abbrev pub multiple_of : ℕ → ℕ
multiple_of h = multiple (exponent h) (digits h)

-- The binary32 that a binary16 widens to. A field of 31 is an infinity or a NaN. Any other is a whole multiple of 2 ^
-- -24: binary32 holds it, so `round` rounds nothing.
unfoldable pub widened : ℕ → Float
widened h =
    cond (eqb (exponent h) 31) (cond (eqb (digits h) 0) (inf (negative h)) nan)
    (round binary32 (negative h) (multiple_of h) (2 ^ 24))

-- Document 01 on widening: a finite binary16 and its binary32 have one sign and are the same whole multiple of 2 ^ -24;
-- infinities keep their sign, NaN stays NaN.
pub record Widens (h : ℕ) (x : Float) : Type 0 where
  pub finite : (exponent h ≡ 31 → ⊥) → HasValue x (negative h) (multiple_of h) (2 ^ 24)
  pub infinite : exponent h ≡ 31 → digits h ≡ 0 → x ≡ inf (negative h)
  pub no_number : exponent h ≡ 31 → (digits h ≡ 0 → ⊥) → x ≡ nan

-- The exponent's field of a binary32 pattern b below 2 ^ 32.
abbrev pub exponent32 : ℕ → ℕ
exponent32 b = b / 8388608 % 256

-- The exponent's field and the digits of the binary16 that quant.rs makes of a binary32 with the exponent's field x and
-- the ten leading digits t. It flushes below 2 ^ -14, a field of at most 112, to zero, and sends overflow and NaN, a
-- field of 143 or more, to infinity.
abbrev pub magnitude16 : ℕ → ℕ → ℕ
magnitude16 x t = cond (leb x 112) 0 (cond (leb 143 x) 31744 ((x - 112) * 1024 + t))

-- The binary16 pattern that `f32_to_f16` makes of a binary32 pattern: it truncates, and the sign stays.
unfoldable pub narrowed : ℕ → ℕ
narrowed b = b / 2147483648 * 32768 + magnitude16 (exponent32 b) (b / 8192 % 1024)

-- A normal binary32 pattern's magnitude as a whole multiple of 2 ^ -149.
abbrev pub multiple32 : ℕ → ℕ
multiple32 b = (8388608 + b % 8388608) * 2 ^ (exponent32 b - 1)

-- Document 01 on `f32_to_f16`: it truncates, so that what is kept is at most the number and one more of its last digit
-- is above it; it flushes below 2 ^ -14 to signed zero, and sends NaN and overflow to infinity.
pub record Narrows (b h : ℕ) : Type 0 where
  pub sign : h / 32768 ≡ b / 2147483648
  pub flushed : exponent32 b ≤ 112 → h % 32768 ≡ 0
  pub at_most : 112 < exponent32 b → exponent32 b < 143 → multiple_of h * 2 ^ 125 ≤ multiple32 b
  pub next_above : 112 < exponent32 b → exponent32 b < 143
      → multiple32 b < (multiple_of h + 2 ^ (exponent h - 1)) * 2 ^ 125
  pub overflow : 143 ≤ exponent32 b → h % 32768 ≡ 31744
