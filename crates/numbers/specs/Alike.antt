-- Floats that differ in the sign of a zero, if at all. Definitions only.
use Rattle.std.specs.Prelude.{Bool, pos, Float}
use Rattle.std.specs.Float.{fin}

-- the same float, NaN too, of which there is one; or two zeros, whatever their signs
pub data Alike : Float → Float → Type 0 where
  same : {a : Float} → Alike a a
  zeros : (s t : Bool) → Alike (fin s 0 (pos 0)) (fin t 0 (pos 0))
