-- Digits that are shifted up by k places, with the exponent down by as many. Assumes nothing.
use mathlib.Core.Path.{◌≡◌, sym, ap, ◌∙◌, subst}
use Prim.Native.Nat.{ℕ, suc, ◌+◌, ◌-◌, ◌*◌, ◌^◌, ◌≤◌, ◌<◌}
use native.Mathlib.Nat.{lt_of_not-le, not-le_of_lt, le_trans, mul_assoc, mul-le-mul_right, mul-lt-mul_of_pos_right}
use native.Mathlib.Omega.{arith}
use mathlib.Core.Bool.{Bool}
use lib.Pow.{pow_pos, pow-add, pow_mono}
use lib.Count.{count_leading_zeros, leading_top}
use lib.Ieee.{binary32, round}
use lib.Ieee.Scale.{round_same}

pub shifted : (s : Bool) (a k e : ℕ) → k + e ≡ 113 → round binary32 s (a * 2 ^ k * 2 ^ e) (2 ^ 137) ≡ round binary32 s a (2 ^ 24)
shifted s a k e h =
    round_same binary32 s (a * 2 ^ k * 2 ^ e) (2 ^ 137) a (2 ^ 24) (pow_pos 137) (pow_pos 24)
    (ap (λ (z : ℕ). z * 2 ^ 24) (mul_assoc a (2 ^ k) (2 ^ e) ∙ ap (λ (z : ℕ). a * z) (sym (pow-add 2 k e) ∙ ap (λ (n : ℕ). 2 ^ n) h)) ∙ mul_assoc a (2 ^ 113) (2 ^ 24))

-- what the count of leading zeros tells of digits below 2 ^ 10
abbrev pub Placed : ℕ → ℕ → Type 0
Placed a z = (21 ≤ z) × (z ≤ 31) × (1024 ≤ a * 2 ^ (z - 21)) × (a * 2 ^ (z - 21) < 2048)

pub placed : (a : ℕ) → 0 < a → a < 1024 → Placed a (count_leading_zeros 32 a)
placed a p h =
    let w : a < 2 ^ 32 = omega arith in
    let t = leading_top 32 a p w in
    let j = t.0 in
    let z = count_leading_zeros 32 a in
    let k : j < 10 = lt_of_not-le (λ (g : 10 ≤ j). not-le_of_lt h (le_trans (pow_mono g) t.2)) in
    let e : z + suc j ≡ 32 = t.1 in
    let up : j + (z - 21) ≡ 10 = omega arith in
    let up' : suc j + (z - 21) ≡ 11 = omega arith in (
      omega arith,
      omega arith,
      subst (λ (n : ℕ). n ≤ a * 2 ^ (z - 21)) (sym (pow-add 2 j (z - 21)) ∙ ap (λ (n : ℕ). 2 ^ n) up) (mul-le-mul_right (2 ^ (z - 21)) t.2),
      subst (λ (n : ℕ). a * 2 ^ (z - 21) < n) (sym (pow-add 2 (suc j) (z - 21)) ∙ ap (λ (n : ℕ). 2 ^ n) up') (mul-lt-mul_of_pos_right t.3 (pow_pos (z - 21))),
    )
