-- Q6_K's scales by document 01's halves and quarters. Assumes nothing.
use mathlib.Core.Path.{◌≡◌, ap}
use mathlib.Core.List.{List}
use Prim.Native.Nat.{ℕ, ◌+◌, ◌*◌, ◌/◌, ◌%◌}
use native.Mathlib.Omega.{arith}
use lib.ListN.{get_or}
use Rattle.numbers.specs.Fields.{signed}
use Rattle.layouts.specs.K.{scale_k, scale_q6k}
use Rattle.layouts.specs.declared.format.FormatK.TheVariants.{Q6K}

-- Two halves of 128, each with 8 scales; in a half, for l below 32, values l, l+32, l+64, l+96 take scales l/16, plus 0, 2, 4, 6.
pub scale_in_its_half : (bs : List ℕ) (i : ℕ) → scale_k Q6K bs i ≡ signed (get_or bs (192 + (8 * (i / 128) + (i % 128 % 32 / 16 + 2 * (i % 128 / 32)))) 0)
unfolding scale_q6k
scale_in_its_half bs i = let e : i / 16 ≡ 8 * (i / 128) + (i % 128 % 32 / 16 + 2 * (i % 128 / 32)) = omega arith in ap (λ (k : ℕ). signed (get_or bs (192 + k) 0)) e
