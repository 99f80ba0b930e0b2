-- What a block decoder says, and what its output holds then. Definitions only.
use Prim.{Unit}
use Rattle.std.specs.Prelude.{ℕ, ◌%◌, not, List, ltb, eqb, length, Float}
use Rattle.refusals.specs.Said.{Said, done}
use Rattle.refusals.specs.Sizes.{most_bytes}
use Rattle.refusals.specs.Refusals.{given, carried_out}
use Rattle.refusals.specs.declared.refusal.Refusal.TheVariants.{NotWholeBlocks, RoomShort, TooLarge}
use Rattle.memory.specs.Lists.{filled}
use Rattle.layouts.specs.Formats.{block_bytes}
use Rattle.layouts.specs.Weights.{weight_at, values_of}
use Rattle.layouts.specs.declared.format.Format.{Format}

-- 6 over the size, 1 for packed bytes that are not whole blocks, 5 for an output too short
unfoldable pub dequantize_refusal : Format → ℕ → ℕ → Said (Unit {0})
dequantize_refusal f n room =
    given TooLarge (ltb most_bytes n)
    (given NotWholeBlocks (not (eqb (n % block_bytes f) 0))
    (given RoomShort (ltb room (values_of f n))
    done))

-- every block's values at the front of the output, whose surplus places are kept
unfoldable pub dequantize_says : Format → List ℕ → List Float → Said (Unit {0}) × List Float
dequantize_says f bs out =
    carried_out (dequantize_refusal f (length bs) (length out)) (filled (weight_at f bs) out (values_of f (length bs))) out
