-- The formats with minimums: which they are, by the arm of a match that took them, and that a format's scales and values go by whether it has minimums. Assumes nothing.
use mathlib.Core.Path.{◌≡◌, refl}
use mathlib.Core.Bool.{true, false≢true}
use mathlib.Core.List.{List}
use mathlib.Core.Logic.{◌⊎◌, ⊎_elim}
use Prim.Native.Nat.{ℕ}
use native.Mathlib.Omega.{arith}
use lib.IntN.{ℤ}
use denote.Enum.Declared.{tag_of}
use Rattle.layouts.specs.Formats.{has_minimums}
use Rattle.layouts.specs.K.{scale_k, value_of}
use Rattle.layouts.specs.declared.format.FormatK.{FormatK}
use Rattle.layouts.specs.declared.format.FormatK.TheVariants.{Q4K, Q5K, Q6K}
use Rattle.layouts.specs.contracts.format.FormatK.{the_type}

-- the arm of Q4_K and Q5_K
pub with_minimums : (f : FormatK) → (tag_of the_type f ≡ 0) ⊎ (tag_of the_type f ≡ 1) → has_minimums f ≡ true
with_minimums Q4K h = refl
with_minimums Q5K h = refl
with_minimums Q6K h = absurd (⊎_elim (λ e. omega arith) (λ e. omega arith) h)

-- the arm of all but Q5_K, taken by a format with minimums
pub left_q4k : (f : FormatK) → (tag_of the_type f ≡ 0) ⊎ (tag_of the_type f ≡ 2) → has_minimums f ≡ true → f ≡ Q4K
left_q4k Q4K h m = refl
left_q4k Q5K h m = absurd (⊎_elim (λ e. omega arith) (λ e. omega arith) h)
left_q4k Q6K h m = absurd (false≢true m)

-- the scale at place i
pub same_scale : (f g : FormatK) (bs : List ℕ) (i : ℕ) → has_minimums g ≡ has_minimums f → scale_k f bs i ≡ scale_k g bs i
same_scale f g bs i e = rw e

-- the value of a whole number z at place i
pub same_value : (f g : FormatK) (bs : List ℕ) (i : ℕ) (z : ℤ) → has_minimums g ≡ has_minimums f → value_of f bs i z ≡ value_of g bs i z
same_value f g bs i z e = rw e
