-- What a block quantizer says, and what its output holds then. Definitions only.
use Prim.{Unit}
use Rattle.std.specs.Prelude.{ℕ, ◌*◌, ◌/◌, ◌%◌, not, List, ltb, eqb, length, Float, Ok}
use Rattle.refusals.specs.Said.{Said, done}
use Rattle.refusals.specs.Sizes.{most_floats}
use Rattle.refusals.specs.Refusals.{given, or_else, carried_out}
use Rattle.refusals.specs.declared.refusal.Refusal.TheVariants.{NotAMultiple, RoomShort, TooLarge}
use Rattle.memory.specs.Lists.{filled, part}
use Rattle.layouts.specs.Formats.{bytes32}
use Rattle.quantizers.specs.Blocks.{format_of, byte_at}
use Rattle.quantizers.specs.Lost.{lost_by}
use Rattle.quantizers.specs.declared.target.Target.{Target}
use Rattle.quantizers.specs.declared.target.Target.TheVariants.{Iq4Nl}
use Rattle.quantizers.specs.declared.lost.Lost.{Lost}

-- byte i of the quantised readings: byte i mod size of block i / size, which is made of the 32 readings from 32 (i /
-- size) on
unfoldable pub packed_at : Target → List Float → ℕ → ℕ
packed_at t xs i = byte_at t (part xs (i / bytes32 (format_of t) * 32) 32) (i % bytes32 (format_of t))

-- how many bytes n readings make
abbrev pub bytes_for : Target → ℕ → ℕ
bytes_for t n = n / 32 * bytes32 (format_of t)

-- 6 over the size, 2 for a float count that is not a multiple of 32, 5 for an output too short
unfoldable pub quantize_refusal : Target → ℕ → ℕ → Said (Unit {0})
quantize_refusal t n room =
    given TooLarge (ltb most_floats n)
    (given NotAMultiple (not (eqb (n % 32) 0))
    (given RoomShort (ltb room (bytes_for t n))
    done))

-- every block's bytes at the front of the output, whose surplus places are kept, and what the blocks' scales lost
unfoldable pub quantize_says : Target → List Float → List ℕ → Said Lost × List ℕ
quantize_says t xs out =
    carried_out (or_else (quantize_refusal t (length xs) (length out)) (Ok (lost_by t xs)))
    (filled (packed_at t xs) out (bytes_for t (length xs))) out

-- the same by a scale that is given, a binary16: no scale is picked, and none is lost
unfoldable pub quantize_given_says : (scale : ℕ) → List Float → List ℕ → Said (Unit {0}) × List ℕ
quantize_given_says scale xs out =
    carried_out (quantize_refusal (Iq4Nl scale) (length xs) (length out))
    (filled (packed_at (Iq4Nl scale) xs) out (bytes_for (Iq4Nl scale) (length xs))) out
