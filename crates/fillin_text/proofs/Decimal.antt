-- What `io::decimal` spells is our decimal number, and how long one is. Assumes nothing.
use mathlib.Core.Path.{◌≡◌, ap}
use Prim.Native.Nat.{ℕ, zero, suc, ◌+◌, ◌-◌, ◌/◌, ◌%◌, ◌^◌, ◌≤◌, ◌<◌, zero-le}
use native.Mathlib.Nat.{pow-suc, one-le-pow, pow-le-pow_right, mod-eq_of_lt, not-suc-le-zero}
use native.Mathlib.Decide.{dec_le}
use native.Mathlib.Omega.{arith}
use borrow.Author.Tests.{lt-ltb, le-ltb}
use mathlib.Core.Bool.{Bool, true, false, cond}
use mathlib.Core.List.{List, [], ◌∷◌, ◌++◌}
use lib.Dec.{ltb}
use lib.ListN.{length, length-append}
use Rattle.io.specs.Digits.{last_digits, hex_digit_ascii, IsDigitCount}
use Rattle.fillin_text.specs.Text.{decimal_in, decimal, field}

-- ---- a digit below 10
glyph_small : (d : ℕ) → d < 10 → hex_digit_ascii d ≡ 48 + d
glyph_small d h = rw (lt-ltb d 10 h)

-- ---- the fewest digits that hold n, spelt

-- more than one digit: n is 10 at least, and all digits but the last are the fewest of n / 10
later : (r n : ℕ) → IsDigitCount 10 1 n (suc (suc r)) → (10 ≤ n) × IsDigitCount 10 1 (n / 10) (suc r)
later r n f =
    let k : suc (suc r) - 1 ≡ suc r = omega arith in
    let least : 10 ^ suc r ≤ n = rw k at (f.2 (omega arith)) in
    let room : n < 10 ^ suc (suc r) = f.1 in
    let p = pow-suc 10 (suc r) in
    let q = pow-suc 10 r in
    let some = one-le-pow r 10 (omega arith) in
    let m : suc r - 1 ≡ r = omega arith in
    (omega (arith, q, some), (omega arith, omega (arith, p), λ h. rw m (omega (arith, q))))

spelt_in : (most r n : ℕ) → r ≤ most → IsDigitCount 10 1 n r → last_digits 10 r n ≡ decimal_in most n
unfolding decimal_in
spelt_in most zero n h f = absurd (not-suc-le-zero f.0)
spelt_in zero (suc r) n h f = absurd (not-suc-le-zero h)
spelt_in (suc most) (suc zero) n h f =
    let s : n < 10 = f.1 in
    rw (lt-ltb n 10 s, mod-eq_of_lt s) (ap (λ (g : ℕ). g ∷ []) (glyph_small n s))
spelt_in (suc most) (suc (suc r)) n h f =
    let w = later r n f in
    rw (le-ltb n 10 w.0, glyph_small (n % 10) (omega arith)) (ap (λ (l : List ℕ). l ++ ((48 + n % 10) ∷ [])) (spelt_in most (suc r) (n / 10) (omega arith) w.1))

-- a number of 64 bits takes twenty digits at most
too_many : (r n : ℕ) → n < 2 ^ 64 → IsDigitCount 10 1 n r → 20 < r → ⊥
too_many r n h f l =
    let k : 20 ≤ r - 1 = omega arith in
    let p : 10 ^ 20 ≤ 10 ^ (r - 1) = pow-le-pow_right (omega arith) k in
    let q : 10 ^ (r - 1) ≤ n = f.2 (omega arith) in
    omega arith

few : (r n : ℕ) → n < 2 ^ 64 → IsDigitCount 10 1 n r → r ≤ 20
few r n h f =
    elim (dec_le r 20) [
      | yes u ↦ u
      | no u ↦ absurd (too_many r n h f (omega arith))
    ]

pub spelt : (r n : ℕ) → n < 2 ^ 64 → IsDigitCount 10 1 n r → last_digits 10 r n ≡ decimal n
unfolding decimal
spelt r n h f = spelt_in 20 r n (few r n h f) f

-- ---- one digit at least, twenty at most
length_decimal_in : (most n : ℕ) → (length (decimal_in most n) ≤ most) × (0 < most → 0 < length (decimal_in most n))
unfolding decimal_in
length_decimal_in zero n = (zero-le, λ h. h)
length_decimal_in (suc most) n = go (ltb n 10) (length_decimal_in most (n / 10)).0
  where
    go : (t : Bool) → length (decimal_in most (n / 10)) ≤ most → (let l = length (cond t ((48 + n) ∷ []) (decimal_in most (n / 10) ++ ((48 + n % 10) ∷ []))) in (l ≤ suc most) × (0 < suc most → 0 < l))
    go true w = (omega arith, λ h. omega arith)
    go false w =
        let e = length-append (decimal_in most (n / 10)) ((48 + n % 10) ∷ []) in
        (omega (arith, e), λ h. omega (arith, e))

pub length_decimal : (n : ℕ) → (length (decimal n) ≤ 20) × (0 < length (decimal n))
unfolding decimal
length_decimal n = let w = length_decimal_in 20 n in (w.0, w.1 (omega arith))

-- a space and a number
pub length_field : (n : ℕ) → (length (field n) ≤ 21) × (1 < length (field n))
unfolding field
length_field n = let w = length_decimal n in (omega (arith, w.0), omega (arith, w.1))
