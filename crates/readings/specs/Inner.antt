-- What the contracts of the inner functions cite: the ends of readings. A Bool says which, as it does for the sign of
-- a float: `false` is upward and `true` downward. Definitions only.
use Rattle.std.specs.Prelude.{ℕ, zero, suc, Bool, true, false, cond, List, length, get_or, Float}
use Rattle.std.specs.Float.{nan}
use Rattle.std.specs.Float.Ieee.{lt}
use Rattle.numbers.specs.Steps.{nought}

-- of a and v, the one that is further up or down; a where v is a NaN
abbrev pub further : Bool → Float → Float → Float
further false a v = cond (lt a v) v a
further true a v = cond (lt v a) v a

-- the furthest of a and the first k readings
unfoldable pub furthest : Bool → Float → List Float → ℕ → Float
furthest s a xs zero = a
furthest s a xs (suc k) = further s (furthest s a xs k) (get_or xs k nan)

-- an end of readings: the furthest of them from +0.0 on
abbrev pub end_of : Bool → List Float → Float
end_of s xs = furthest s nought xs (length xs)

-- the furthest of eight numbers, met in a tree
unfoldable pub furthest_of_8 : Bool → List Float → Float
furthest_of_8 s h = further s
    (further s (further s (get_or h 0 nan) (get_or h 4 nan)) (further s (get_or h 2 nan) (get_or h 6 nan)))
    (further s (further s (get_or h 1 nan) (get_or h 5 nan)) (further s (get_or h 3 nan) (get_or h 7 nan)))
