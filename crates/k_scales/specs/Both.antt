-- The scales of a block with minimums, and its minimums behind them. Definitions only.
use Rattle.std.specs.Prelude.{ℕ, ◌-◌, cond, List, ltb, Float}
use Rattle.layouts.specs.K.{d_scale, dmin_minimum}
use Rattle.layouts.specs.declared.format.FormatK.TheVariants.{Q4K}

-- d*scale of sub-block j at place j, and its dmin*minimum at place j + 8
unfoldable pub scale_then_minimum : List ℕ → ℕ → Float
scale_then_minimum bs i = cond (ltb i 8) (d_scale Q4K bs i) (dmin_minimum bs (i - 8))
