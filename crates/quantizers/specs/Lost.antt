-- What the blocks' scales lost when they were stored in binary16. Definitions only.
use Rattle.std.specs.Prelude.{ℕ, zero, suc, ◌+◌, ◌*◌, ◌/◌, List, length, Float}
use Rattle.memory.specs.Lists.{part}
use Rattle.halves.specs.declared.how.How.{How}
use Rattle.halves.specs.declared.how.How.TheVariants.{Exact, Cut, Flushed, SentToInfinity}
use Rattle.quantizers.specs.Blocks.{scale_of, stored_scale}
use Rattle.quantizers.specs.declared.target.Target.{Target}
use Rattle.quantizers.specs.declared.lost.Lost.{Lost}

-- so many scales flushed to zero, and so many sent to infinity
abbrev pub lost : (flushed infinite : ℕ) → Lost
lost flushed infinite = record { flushed = flushed; infinite = infinite }

-- the same with one more scale, which fared like this
abbrev pub counted : Lost → How → Lost
counted l Exact = l
counted l Cut = l
counted l Flushed = lost (l.flushed + 1) l.infinite
counted l SentToInfinity = lost l.flushed (l.infinite + 1)

-- how the scale of a block of these 32 readings fares when it is stored
unfoldable pub scale_fares : Target → List Float → How
scale_fares t xs = (stored_scale t (scale_of t xs)).how

-- what the scales of the first n blocks of the readings lost
unfoldable pub lost_in : Target → List Float → ℕ → Lost
lost_in t xs zero = lost 0 0
lost_in t xs (suc n) = counted (lost_in t xs n) (scale_fares t (part xs (n * 32) 32))

-- what those of all of them lost
abbrev pub lost_by : Target → List Float → Lost
lost_by t xs = lost_in t xs (length xs / 32)
