-- What run returns. Definitions only.
use Rattle.std.specs.Prelude.{ℕ}
use Rattle.stepped_shape.specs.declared.progress.Progress.{Progress}

-- so many pieces done, and so many left open
abbrev pub ran : (done left : ℕ) → Progress
ran done left = record { done = done; left = left }
