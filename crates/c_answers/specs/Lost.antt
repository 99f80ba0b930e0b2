-- How C is handed how a number fared when it was narrowed, and what a quantizer's scales lost. Definitions only.
use Rattle.std.specs.Prelude.{ℕ, List, [], ◌∷◌, Ok, Err}
use Rattle.refusals.specs.Said.{Said}
use Rattle.halves.specs.declared.how.How.{How}
use Rattle.halves.specs.declared.how.How.TheVariants.{Exact, Cut, Flushed, SentToInfinity}
use Rattle.halves.specs.declared.how.Narrowed.{Narrowed}
use Rattle.quantizers.specs.declared.lost.Lost.{Lost}
use Rattle.c_answers.specs.Answers.{number_of}

-- the number of each of the four
abbrev pub how_number : How → ℕ
how_number Exact = 0
how_number Cut = 1
how_number Flushed = 2
how_number SentToInfinity = 3

-- the two of `f32_to_f16`: its bits are returned, and behind the pointer stands the number of how the number fared
abbrev pub numbered_how : Narrowed → ℕ × ℕ
numbered_how made = (made.bits, how_number made.how)

-- what stands in a quantizer's two counts after it: the scales flushed and the scales sent to infinity where it is done,
-- and otherwise what stood there
unfoldable pub lost_after : Said Lost → List ℕ → List ℕ
lost_after (Ok lost) old = lost.flushed ∷ lost.infinite ∷ []
lost_after (Err why) old = old

-- the three of a quantizer: the number, what its output holds, the two counts
unfoldable pub numbered_lost : {M : Type 0} → Said Lost × M → List ℕ → ℕ × (M × List ℕ)
numbered_lost (says, memory) old = (number_of says, (memory, lost_after says old))
