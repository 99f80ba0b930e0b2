-- The terms of a fused dot, by place: element i is multiplied. Definitions only.
use Rattle.std.specs.Prelude.{ℕ, List, get_or, Float}
use Rattle.std.specs.Float.{nan, binary32}
use Rattle.std.specs.Float.Ieee.{mul}
use Rattle.layouts.specs.Weights.{weight_at}
use Rattle.layouts.specs.declared.format.FormatK.{FormatK}
use Rattle.layouts.specs.declared.format.Format.TheVariants.{OfK}

-- reading i multiplied by weight i of the blocks w
abbrev pub terms : FormatK → List Float → List ℕ → ℕ → Float
terms f x w i = mul binary32 (get_or x i nan) (weight_at (OfK f) w i)
