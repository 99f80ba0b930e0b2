-- The Q8 rule is the same on both sides of zero: below it, it is the rule of the magnitude with the sign turned. Assumes nothing.
use mathlib.Core.Path.{◌≡◌, refl, sym, ap, ◌∙◌}
use mathlib.Core.Bool.{Bool, true, false, cond, false≢true, true≢false}
use Prim.Native.Nat.{ℕ, zero, suc, ◌+◌, ◌-◌, ◌*◌, ◌/◌, ◌^◌, ◌<◌, min}
use native.Mathlib.Nat.{zero-mul}
use native.Mathlib.Omega.{arith}
use borrow.Author.Tests.{lt-ltb, ne_eqb, ltb-true, ltb-false}
use lib.Dec.{T, ltb, lit<}
use lib.IntN.{ℤ, pos, negsuc, neg_ℤ}
use lib.Ieee.{Float, nan, inf, fin, binary32, up, down, round, neg, sum, add, lt, eq, le, of_bits, to_signed}
use lib.Ieee.Bits.{is_true}
use lib.Ieee.Fits.{down_pos}
use lib.Ieee.Order.{le_of_values}
use Rattle.numbers.specs.Steps.{nought, truncated}
use Rattle.numbers.proofs.FloatLaws.{neg_round}
use Rattle.readings.specs.Readings.{held, quant_q8}
use Rattle.readings.proofs.Held.{capped, held_pos}
use Rattle.readings.proofs.Signs.{plus, plus_round}

-- ---- a float and its negation as whole numbers, the same but for the ends of the range

record Mirrored (x : Float) : Type 0 where
  part : ℕ
  straight : truncated x ≡ pos (min part (2 ^ 31 - 1))
  turned : truncated (neg x) ≡ neg_ℤ (pos (min part (2 ^ 31)))

mirrored : (x : Float) → T (plus x) → Mirrored x
unfolding to_signed neg
mirrored nan h = absurd h
mirrored (inf true) h = absurd h
mirrored (inf false) h = record { part = 2 ^ 31; straight = refl; turned = refl }
mirrored (fin true m e) h = absurd h
mirrored (fin false m e) h = record { part = m * up e / down e; straight = refl; turned = refl }

-- ---- what is held within -127 and 127

negated : (k : ℕ) → held (negsuc 126) (pos 127) (neg_ℤ (pos k)) ≡ neg_ℤ (pos (min k 127))
negated zero = refl
negated (suc k) = by (ltb 126 k) refl
  where
    by : (t : Bool) → ltb 126 k ≡ t → cond t (negsuc 126) (negsuc k) ≡ neg_ℤ (pos (min (suc k) 127))
    by true e = let h : min (suc k) 127 ≡ 127 = omega (arith, ltb-true 126 k e) in rw h
    by false e = let h : min (suc k) 127 ≡ suc k = omega (arith, ltb-false 126 k e) in rw h

-- what is held of a float whose sign is plus, and of its negation
straight : (x : Float) → T (plus x) → held (negsuc 126) (pos 127) (truncated x) ≡ held (pos 0) (pos 127) (truncated x)
straight x h = let m = mirrored x h in rw m.straight (capped 127 (min m.part (2 ^ 31 - 1)) ∙ sym (held_pos 127 (min m.part (2 ^ 31 - 1))))

turned : (x : Float) → T (plus x) → held (negsuc 126) (pos 127) (truncated (neg x)) ≡ neg_ℤ (held (pos 0) (pos 127) (truncated x))
turned x h =
    let m = mirrored x h in
    let same : min (min m.part (2 ^ 31)) 127 ≡ min (min m.part (2 ^ 31 - 1)) 127 = omega arith in
    rw (m.straight, m.turned)
    (negated (min m.part (2 ^ 31)) ∙ ap (λ (n : ℕ). neg_ℤ (pos n)) same ∙ sym (ap neg_ℤ (held_pos 127 (min m.part (2 ^ 31 - 1)))))

-- ---- the rule, by where p lies

abbrev pub half : Float
half = fin false 1 (negsuc 0)

rule : (p : Float) (t : Bool) → le nought p ≡ t → quant_q8 p ≡ held (negsuc 126) (pos 127) (truncated (add binary32 p (cond t half (neg half))))
unfolding quant_q8 of_bits neg
rule p t e = rw e

-- at least 0: what is not negative, and -0.0; not so, what is negative
from_zero : (m : ℕ) (e : ℤ) → le nought (fin false m e) ≡ true
unfolding of_bits
from_zero m e = is_true (le nought (fin false m e)) (le_of_values nought (fin false m e) 0 1 (m * up e) (down e) (lit< tt) (down_pos e) (refl, refl) (refl, refl) (omega (arith, zero-mul (down e))))

minus_zero : (m : ℕ) (e : ℤ) → m * up e ≡ 0 → le nought (fin true m e) ≡ true
unfolding of_bits le lt eq
minus_zero m e h = rw (zero-mul (down e), h)

negative : (m : ℕ) (e : ℤ) → 0 < m * up e → le nought (fin true m e) ≡ false
unfolding of_bits le lt eq
negative m e h = rw (ne_eqb (0 * down e) (m * up e * 1) (λ k. omega (arith, zero-mul (down e))))

pub not_below : (p : Float) → lt p nought ≡ false → quant_q8 p ≡ held (pos 0) (pos 127) (truncated (add binary32 p half))
unfolding of_bits add sum lt le eq to_signed
not_below nan h = rule nan false refl
not_below (inf true) h = absurd (true≢false h)
not_below (inf false) h = rule (inf false) true refl
not_below (fin true m e) h =
    let nothing : m * up e ≡ 0 = omega (arith, ltb-false 0 (m * up e * 1 + 0 * down e) h, zero-mul (down e)) in
    let up_to : ltb (m * up e * 2) (1 * down e) ≡ true = lt-ltb (m * up e * 2) (1 * down e) (omega (arith, down_pos e)) in
    rule (fin true m e) true (minus_zero m e nothing)
    ∙ straight (add binary32 (fin true m e) half) (rw up_to (plus_round binary32 (1 * down e - m * up e * 2) (down e * 2)))
not_below (fin false m e) h =
    rule (fin false m e) true (from_zero m e)
    ∙ straight (add binary32 (fin false m e) half) (plus_round binary32 (m * up e * 2 + 1 * down e) (down e * 2))

pub below : (p : Float) → lt p nought ≡ true → quant_q8 p ≡ neg_ℤ (held (pos 0) (pos 127) (truncated (add binary32 (neg p) half)))
unfolding of_bits neg add sum lt le eq to_signed
below nan h = absurd (false≢true h)
below (inf true) h = rule (inf true) false refl
below (inf false) h = absurd (false≢true h)
below (fin true m e) h =
    let some : 0 < m * up e = omega (arith, ltb-true 0 (m * up e * 1 + 0 * down e) h, zero-mul (down e)) in
    let x = round binary32 false (m * up e * 2 + 1 * down e) (down e * 2) in
    rule (fin true m e) false (negative m e some)
    ∙ ap (λ (y : Float). held (negsuc 126) (pos 127) (truncated y)) (neg_round binary32 false (m * up e * 2 + 1 * down e) (down e * 2))
    ∙ turned x (plus_round binary32 (m * up e * 2 + 1 * down e) (down e * 2))
below (fin false m e) h = absurd (omega (arith, ltb-true (m * up e * 1) (0 * down e) h, zero-mul (down e)))
