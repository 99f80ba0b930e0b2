-- A block of Q4_0 in the other of its two orders, over its bytes. Definitions only.
use Rattle.std.specs.Prelude.{ℕ, zero, suc, ◌+◌, ◌*◌, ◌/◌, ◌%◌, List, length, get_or}
use Rattle.memory.specs.Lists.{table}
use Rattle.layouts.specs.Formats.{bytes32}
use Rattle.layouts.specs.Of32.{nibble_beside, nibble_apart}
use Rattle.layouts.specs.Weights.{block}
use Rattle.layouts.specs.declared.format.Format.TheVariants.{Of32}
use Rattle.layouts.specs.declared.format.Format32.TheVariants.{Q40}
use Rattle.converters.specs.declared.direction.Direction.{Direction}
use Rattle.converters.specs.declared.direction.Direction.TheVariants.{ToGgml, FromGgml}

-- Byte k behind the scale of a converted block. In GGML's order it has the paired order's nibbles at places k and k+16,
-- in the paired order GGML's at places 2k and 2k+1: the first of the two low, the second high.
unfoldable pub moved_byte : Direction → List ℕ → ℕ → ℕ
moved_byte ToGgml bs k = nibble_beside bs 2 k + 16 * nibble_beside bs 2 (k + 16)
moved_byte FromGgml bs k = nibble_apart bs 2 (2 * k) + 16 * nibble_apart bs 2 (2 * k + 1)

-- byte p of a converted block: the scale's two bytes as they are, and then the nibbles
unfoldable pub converted_byte : Direction → List ℕ → ℕ → ℕ
converted_byte d bs zero = get_or bs 0 0
converted_byte d bs (suc zero) = get_or bs 1 0
converted_byte d bs (suc (suc k)) = moved_byte d bs k

-- byte i of a run of converted blocks: a block has as many bytes in either order
unfoldable pub converted_at : Direction → List ℕ → ℕ → ℕ
converted_at d bs i = converted_byte d (block (Of32 Q40) bs (i / bytes32 Q40)) (i % bytes32 Q40)

-- a run of whole blocks, converted
abbrev pub converted : Direction → List ℕ → List ℕ
converted d bs = table (converted_at d bs) (length bs)
