-- `bits::of_bits` meets its contract. Assumes nothing.
use mathlib.Core.Path.{◌≡◌, refl, sym, ◌∙◌, subst}
use mathlib.Core.Bool.{Bool, true}
use Prim.Native.Nat.{ℕ, ◌%◌, ◌<◌}
use borrow.Author.Tests.{lt-ltb}
use lib.Dec.{T}
use lib.Ieee.{Float, nan, inf, fin, binary32, is_nan, of_bits}
use lib.Ieee.Bits.{nan_bits_is, nan_bits_above}
use Rattle.halves.proofs.Cases.{no_number}
use Rattle.halves.proofs.Patterns.{no_nan}
use Rattle.halves.proofs.bits.of_bits.Goals as goal

is_nan_lem : (x : Float) → is_nan x ≡ true → x ≡ nan
unfolding is_nan
is_nan_lem nan e = refl
is_nan_lem (inf s) e = absurd (subst (λ (t : Bool). T t) (sym e) tt)
is_nan_lem (fin s m d) e = absurd (subst (λ (t : Bool). T t) (sym e) tt)

-- a pattern above that of the infinities, its sign aside, is a NaN's
pub above_infinity : (b : ℕ) → 2139095040 < b % 2147483648 → of_bits binary32 b ≡ nan
above_infinity b h = is_nan_lem (of_bits binary32 b) (sym (nan_bits_is binary32 b) ∙ nan_bits_above binary32 b ∙ lt-ltb 2139095040 (b % 2147483648) h)

pub returns-then-bits-gt2139095040 : goal.returns-then-bits-gt2139095040
returns-then-bits-gt2139095040 c = no_number ∙ sym (above_infinity c.args.bits c.if-bits-gt2139095040.true)

pub float_from_bits-result : goal.float_from_bits-result
float_from_bits-result c = no_nan c.args.bits c.if-bits-gt2139095040.false
