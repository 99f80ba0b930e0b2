-- The sign of what is rounded: plus stays plus. Assumes nothing.
use mathlib.Core.Bool.{Bool, true, false, not, cond}
use Prim.Native.Nat.{ℕ, zero, suc, ◌*◌, ◌^◌}
use lib.Dec.{T, ltb}
use lib.Ieee.{Float, nan, inf, fin, Format, prec, low, odd, units, round}
use lib.Ieee.Fits.{round_is}
use lib.Ieee.Scale.{overflow}

-- no NaN, and the sign is plus
abbrev pub plus : Float → Bool
plus nan = false
plus (inf s) = not s
plus (fin s m e) = not s

plus_cond : (t : Bool) (x y : Float) → T (plus x) → T (plus y) → T (plus (cond t x y))
plus_cond true x y h k = h
plus_cond false x y h k = k

plus_odd : (d q k l : ℕ) → T (plus (odd d false q k l))
unfolding odd
plus_odd d zero k l = tt
plus_odd d (suc q) k l = tt

plus_units : (f : Format) (q k : ℕ) → T (plus (units f false q k))
unfolding units
plus_units f q k = plus_cond (ltb (q * 2 ^ k) (overflow f)) (odd (suc (prec f)) false q k (low f)) (inf false) (plus_odd (suc (prec f)) q k (low f)) tt

pub plus_round : (f : Format) (a c : ℕ) → T (plus (round f false a c))
plus_round f a c = rw (round_is f false a c) (plus_units f _ _)
