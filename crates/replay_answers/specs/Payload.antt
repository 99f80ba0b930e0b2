-- What stands in a payload. Definitions only.
use Rattle.std.specs.Prelude.{ℕ, ◌+◌, ◌*◌, cond, List, leb, length, Float}
use Rattle.std.specs.Float.{binary32}
use Rattle.std.specs.Float.Ieee.{of_bits}
use Rattle.numbers.specs.Fields.{le32}

-- the u32 at place i; 0 where the payload ends before it does
unfoldable pub u32_at : List ℕ → ℕ → ℕ
u32_at p i = cond (leb (i + 4) (length p)) (le32 p i) 0

-- float i of a payload that begins with floats
unfoldable pub float_at : List ℕ → ℕ → Float
float_at p i = of_bits binary32 (u32_at p (4 * i))
