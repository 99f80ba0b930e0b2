-- The refusal of packed weights that are too few, by their blocks. Definitions only.
use Rattle.std.specs.Prelude.{ℕ, ◌/◌}
use Rattle.refusals.specs.declared.refusal.Refusal.{Refusal}
use Rattle.refusals.specs.Said.{blocks_short}
use Rattle.layouts.specs.Formats.{bytes_k}
use Rattle.layouts.specs.declared.format.FormatK.{FormatK}

-- 3, with the whole blocks of the weight bytes that were found, and the blocks that are needed
abbrev pub weights_short : FormatK → (bytes needed : ℕ) → Refusal
weights_short f bytes needed = blocks_short (bytes / bytes_k f) needed
