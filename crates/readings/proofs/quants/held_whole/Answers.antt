-- `readings::held_whole` meets its contract: a float that is held has the held whole part. Assumes nothing.
use mathlib.Core.Path.{◌≡◌, ◌∙◌}
use mathlib.Core.Bool.{false, cond}
use Prim.Native.Nat.{ℕ, ◌<◌}
use native.Mathlib.Omega.{arith}
use lib.Dec.{lit<}
use lib.IntN.{pos}
use lib.Ieee.{Float, binary32, round, of_int, of_bits, lt}
use lib.Ieee.Back.{round_whole}
use mir.Syntax.{w32}
use Rattle.numbers.specs.Steps.{nought}
use Rattle.numbers.proofs.Signed.{read_is}
use Rattle.readings.proofs.Values.{Fraction, of_value}
use Rattle.readings.proofs.Held.{Held, held_is}
use Rattle.readings.proofs.quants.held_whole.Goals as goal

-- a small whole number as a float
number : (n : ℕ) → n < 256 → Fraction (of_int binary32 (pos n)) n 1
unfolding of_int
number n h = of_value (round binary32 false n 1) n 1 (lit< tt) (round_whole binary32 false n (omega arith))

-- what the two choices leave
within : {most : ℕ} {t s l : Float} → 0 < most → most < 256 → s ≡ cond (lt l (of_int binary32 (pos most))) l (of_int binary32 (pos most)) → l ≡ cond (lt nought t) t nought → Held most t s
within {most} {t} p h e g = rw (e, g) (held_is most p h (of_int binary32 (pos most)) (number most h) t)

pub small_whole-requires : goal.small_whole-requires
unfolding of_bits
small_whole-requires c =
    let w : Held c.args.most c.args.t c.smaller_of.result = within c.requires c.ranges.most.fits c.smaller_of.ensures c.larger_of.ensures in
    (w.from_zero, w.below)

pub returns : goal.returns
unfolding of_bits
returns c =
    let w : Held c.args.most c.args.t c.smaller_of.result = within c.requires c.ranges.most.fits c.smaller_of.ensures c.larger_of.ensures in
    read_is w32 _ c.small_whole.type_inv ∙ c.small_whole.ensures ∙ w.is
