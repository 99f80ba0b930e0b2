-- `bits::bits_of` meets its contract. Assumes nothing.
use mathlib.Core.Path.{◌≡◌, sym, ap, subst, ◌∙◌}
use mathlib.Core.Bool.{Bool, not, false}
use lib.Dec.{T}
use lib.Ieee.{Float, nan, inf, fin, binary32, ne, is_nan, to_bits}
use lib.Ieee.Compare.{differs_from_itself, nan_differs}
use Rattle.halves.proofs.bits.bits_of.Goals as goal

pub returns-then-x : goal.returns-then-x
unfolding to_bits
returns-then-x c = ap (to_bits binary32) (sym (differs_from_itself c.args.x (subst T (sym c.if-x.true) tt)))

number : (x : Float) → ne x x ≡ false → T (not (is_nan x))
unfolding is_nan
number nan e = absurd (subst (λ (t : Bool). T t) (sym nan_differs ∙ e) tt)
number (inf s) e = tt
number (fin s m d) e = tt

pub float_to_bits-result : goal.float_to_bits-result
float_to_bits-result c = number c.args.x c.if-x.false
