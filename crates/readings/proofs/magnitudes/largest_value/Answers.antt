-- `readings::largest_value` meets its contract: the law of the two ends, by how the tests compare them. Assumes nothing.
use mathlib.Core.Path.{◌≡◌, sym, ◌∙◌}
use mathlib.Core.Bool.{true, false}
use mathlib.Core.List.{List}
use Prim.Native.Nat.{ℕ, zero-le}
use native.Mathlib.Nat.{le_antisymm}
use borrow.Author.Tests.{ltb-true, ltb-false}
use lib.Dec.{T, ltb}
use lib.ListN.{length, get_or}
use lib.Ieee.{Float, nan, binary32, lt, neg, fits}
use Rattle.numbers.specs.Steps.{nought}
use Rattle.readings.specs.Readings.{largest, largest_value}
use Rattle.readings.specs.Inner.{end_of}
use Rattle.readings.proofs.TwoEnds.{far, other_further, above_zero, further_end, same_ends, no_ends}
use Rattle.readings.proofs.magnitudes.largest_value.Goals as goal

-- the three tests, of the ends high and low
module _ (xs : List Float) (fit : (i : ℕ) → T (fits binary32 (get_or xs i nan))) {high low : Float} (up : high ≡ end_of false xs) (down : low ≡ end_of true xs) where
  up_further : lt (neg high) low ≡ ltb (far xs fit true) (far xs fit false)
  up_further = rw (up, down) (other_further xs fit true)

  down_further : lt high (neg low) ≡ ltb (far xs fit false) (far xs fit true)
  down_further = rw (up, down) (other_further xs fit false)

  some_end : lt nought high ≡ ltb 0 (far xs fit false)
  some_end = rw up (above_zero xs fit)

  as_far : lt (neg high) low ≡ false → lt high (neg low) ≡ false → far xs fit false ≡ far xs fit true
  as_far p q = le_antisymm (ltb-false _ _ (sym up_further ∙ p)) (ltb-false _ _ (sym down_further ∙ q))

  -- what each test says of the value
  high_further : lt (neg high) low ≡ true → high ≡ largest_value xs (length xs)
  high_further p = up ∙ sym (further_end xs fit false (ltb-true _ _ (sym up_further ∙ p)))

  low_further : lt high (neg low) ≡ true → low ≡ largest_value xs (length xs)
  low_further p = down ∙ sym (further_end xs fit true (ltb-true _ _ (sym down_further ∙ p)))

  high_largest : lt (neg high) low ≡ false → lt high (neg low) ≡ false → high ≡ largest xs (length xs)
  high_largest p q = up ∙ same_ends xs fit (as_far p q)

  no_end : lt (neg high) low ≡ false → lt high (neg low) ≡ false → lt nought high ≡ false → largest_value xs (length xs) ≡ nought
  no_end p q r = no_ends xs fit (as_far p q) (le_antisymm (ltb-false _ _ (sym some_end ∙ r)) zero-le)

pub returns-then-high-low : goal.returns-then-high-low
returns-then-high-low c = high_further c.args.x.now c.type_inv.x c.ends_of-e.ensures.0 c.ends_of-e.ensures.1 c.if-high-low.true

pub returns-then-high-low-2 : goal.returns-then-high-low-2
returns-then-high-low-2 c = low_further c.args.x.now c.type_inv.x c.ends_of-e.ensures.0 c.ends_of-e.ensures.1 c.if-high-low-2.true

pub first_of-requires : goal.first_of-requires
first_of-requires c = high_largest c.args.x.now c.type_inv.x c.ends_of-e.ensures.0 c.ends_of-e.ensures.1 c.if-high-low.false c.if-high-low-2.false

pub returns : goal.returns
returns c = sym (no_end c.args.x.now c.type_inv.x c.ends_of-e.ensures.0 c.ends_of-e.ensures.1 c.if-high-low.false c.if-high-low-2.false c.if-high.false)
