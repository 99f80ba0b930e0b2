-- What only the contracts of inner functions cite. Definitions only.
use Rattle.std.specs.Prelude.{ℕ, ◌*◌, List, Float}
use Rattle.memory.specs.Lists.{part}
use Rattle.layouts.specs.Formats.{bytes_k}
use Rattle.layouts.specs.declared.format.FormatK.{FormatK}
use Rattle.dots_kept_row.specs.declared.kept.KeptBlock.{KeptBlock}
use Rattle.dots_kept_row.specs.declared.meeting.Meeting.{Meeting}
use Rattle.dots_kept_row.specs.Meets.{meets}
use Rattle.dots_kept_row.specs.Inner.{kept_dot}

-- the dot of row o of the weights, n blocks, and the row kept
abbrev pub kept_row_dot : FormatK → Meeting → List ℕ → List KeptBlock → ℕ → ℕ → Float
kept_row_dot f m w kept n o = meets m (kept_dot f (part w (o * (n * bytes_k f)) (n * bytes_k f)) kept) n
