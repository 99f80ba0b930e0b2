-- What a converter says, and what its output holds then. Definitions only.
use Prim.{Unit}
use Rattle.std.specs.Prelude.{ℕ, ◌%◌, not, List, ltb, eqb, length}
use Rattle.refusals.specs.Said.{Said, done}
use Rattle.refusals.specs.Sizes.{most_bytes}
use Rattle.refusals.specs.Refusals.{given, carried_out}
use Rattle.refusals.specs.declared.refusal.Refusal.TheVariants.{NotWholeBlocks, RoomShort, TooLarge}
use Rattle.memory.specs.Lists.{filled}
use Rattle.layouts.specs.Formats.{bytes32}
use Rattle.layouts.specs.declared.format.Format32.TheVariants.{Q40}
use Rattle.converters.specs.Orders.{converted_at}
use Rattle.converters.specs.declared.direction.Direction.{Direction}

-- 6 over the size, 1 for packed bytes that are not whole blocks, 5 for an output shorter than the bytes
unfoldable pub convert_refusal : ℕ → ℕ → Said (Unit {0})
convert_refusal n room =
    given TooLarge (ltb most_bytes n)
    (given NotWholeBlocks (not (eqb (n % bytes32 Q40) 0))
    (given RoomShort (ltb room n)
    done))

-- every block in the other order at the front of the output, whose surplus places are kept
unfoldable pub convert_says : Direction → List ℕ → List ℕ → Said (Unit {0}) × List ℕ
convert_says d bs out =
    carried_out (convert_refusal (length bs) (length out)) (filled (converted_at d bs) out (length bs)) out
