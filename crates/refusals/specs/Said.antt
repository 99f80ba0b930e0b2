-- What a call says, in document 01's terms: what it gives, or why it refuses, and the number of each refusal. Definitions
-- only.
use Prim.{Unit, tt}
use Rattle.std.specs.Prelude.{ℕ, Result, Ok, Err}
use Rattle.refusals.specs.declared.refusal.Refusal.{Refusal}
use Rattle.refusals.specs.declared.refusal.Refusal.TheVariants.{
  NotWholeBlocks,
  NotAMultiple,
  WeightsShort,
  ReadingsShort,
  RoomShort,
  TooLarge,
  WrongSums,
  Outside,
  AlreadyDone,
  PieceOpen,
  Malformed,
  Unknown,
  WarmUp,
  WeightsLong,
  WrongCount,
}

-- what a call gives where it does not refuse, or why it refuses
abbrev pub Said : Type 0 → Type 0
Said A = Result A Refusal

-- the work is done; and of a check, nothing is refused
abbrev pub done : Said (Unit {0})
done = Ok tt

-- what a call that gives nothing says of what another says: a refusal is passed on
abbrev pub passed_on : {A : Type 0} → Said A → Said (Unit {0})
passed_on (Ok a) = done
passed_on (Err why) = Err why

-- fewer packed weights than needed (3): so many whole blocks were found, and so many are needed
abbrev pub blocks_short : (found needed : ℕ) → Refusal
blocks_short found needed = WeightsShort found needed

-- fewer weights than needed (3), which are not counted in blocks
abbrev pub uncounted : Refusal
uncounted = WeightsShort 0 0

-- the number that document 01 gives a refusal, and document 02 the last two
abbrev pub number : Refusal → ℕ
number NotWholeBlocks = 1
number NotAMultiple = 2
number (WeightsShort found needed) = 3
number ReadingsShort = 4
number RoomShort = 5
number TooLarge = 6
number WrongSums = 7
number Outside = 8
number AlreadyDone = 9
number PieceOpen = 10
number Malformed = 11
number Unknown = 12
number WarmUp = 13
number WeightsLong = 14
number WrongCount = 15

-- the whole blocks that were found, where a refusal counts them, and otherwise 0 ..
abbrev pub found_by : Refusal → ℕ
found_by (WeightsShort found needed) = found
found_by why = 0

-- .. and that are needed
abbrev pub needed_by : Refusal → ℕ
needed_by (WeightsShort found needed) = needed
needed_by why = 0
