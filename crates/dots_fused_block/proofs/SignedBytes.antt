-- A signed byte as a float, over an unsigned one: 128 is added, and taken off again as a float, which is exact. Assumes nothing.
use mathlib.Core.Path.{◌≡◌, refl, sym, ap, ◌∙◌}
use mathlib.Core.Bool.{true, false}
use Prim.Native.Nat.{ℕ, suc, ◌+◌, ◌-◌, ◌*◌, ◌^◌, ◌≤◌, ◌<◌}
use native.Mathlib.Nat.{mul-one, mul_comm, mul_assoc, mul-pos, mul-sub, mul-lt-mul_of_pos_right, lt_of_lt_of_le}
use native.Mathlib.Omega.{arith}
use borrow.Author.Tests.{lt-ltb, le-ltb}
use lib.Dec.{lit<, lit≤}
use lib.IntN.{ℤ, pos, negsuc, ◌+ℤ◌}
use lib.Signed.{mag}
use lib.Ieee.{Float, binary32, fin, up, down, round, neg, sum, add, sub, of_int}
use lib.Ieee.Back.{round_whole}
use lib.Ieee.Fits.{down_pos}
use lib.Ieee.Scale.{round_same}
use mir.Syntax.{w8, w32}
use mir.Val.{SFits, to_z, of_z}
use mir.ValLaws.{to_z-of_z}
use Rattle.numbers.proofs.Signed.{read_is}
use Rattle.readings.proofs.Values.{Fraction, of_value, power, sub_is}

-- ---- the unsigned byte

-- the byte that a signed one and 128 are
abbrev pub above : ℤ → ℕ
above (pos n) = n + 128
above (negsuc k) = 127 - k

pub above_is : (z : ℤ) → mag z < 128 → z +ℤ pos 128 ≡ pos (above z)
above_is (pos n) h = refl
above_is (negsuc k) h =
    let l : suc k ≤ 128 = omega arith in
    let e : 128 - suc k ≡ 127 - k = omega arith in
    rw (le-ltb 128 (suc k) l, e)

pub above_under : (z : ℤ) → mag z < 128 → above z < 256
above_under (pos n) h = omega arith
above_under (negsuc k) h = omega arith

-- ---- as the machine has it

module _ (z : ℤ) (h : mag z < 128) where
  pub wide_fits : SFits w32 (to_z w8 (of_z w8 z))
  wide_fits = rw (read_is w8 z h) (record { sfits = lt_of_lt_of_le h (lit≤ tt) })

  wide_is : to_z w32 (of_z w32 (to_z w8 (of_z w8 z))) ≡ z
  wide_is = to_z-of_z w32 _ wide_fits ∙ read_is w8 z h

  pub sum_fits : SFits w32 (to_z w32 (of_z w32 (to_z w8 (of_z w8 z))) +ℤ pos 128)
  sum_fits = rw (wide_is, above_is z h) (record { sfits = lt_of_lt_of_le (above_under z h) (lit≤ tt) })

  pub sum_is : to_z w32 (of_z w32 (to_z w32 (of_z w32 (to_z w8 (of_z w8 z))) +ℤ pos 128)) ≡ pos (above z)
  sum_is = to_z-of_z w32 _ sum_fits ∙ ap (λ (y : ℤ). y +ℤ pos 128) wide_is ∙ above_is z h

-- ---- the float

whole : (n : ℕ) → n < 256 → Fraction (round binary32 false n 1) n 1
whole n h = of_value (round binary32 false n 1) n 1 (lit< tt) (round_whole binary32 false n (most h))
  where
    most : {k : ℕ} → k < 256 → k ≤ 2 ^ 24
    most l = omega arith

-- a whole number less a larger one
below : {x y : Float} {a b : ℕ} → Fraction x a 1 → Fraction y b 1 → a < b → sub binary32 x y ≡ round binary32 true (b - a) 1
unfolding sub add sum neg
below {x} {y} {a} {b} p q l =
    let m = p.digits * up p.place in
    let n = q.digits * up q.place in
    let e = down p.place in
    let k = down q.place in
    let u : m * k ≡ a * (e * k) = rw (sym (mul-one m) ∙ p.same) (mul_assoc a e k) in
    let v : n * e ≡ b * (e * k) = rw (sym (mul-one n) ∙ q.same, mul_comm e k) (mul_assoc b k e) in
    let positive : 0 < e * k = mul-pos (down_pos p.place) (down_pos q.place) in
    let less : m * k < n * e = rw (u, v) (mul-lt-mul_of_pos_right l positive) in
    let over : (n * e - m * k) * 1 ≡ (b - a) * (e * k) = mul-one (n * e - m * k) ∙ (rw (u, v, mul_comm b (e * k), mul_comm a (e * k), mul_comm (b - a) (e * k)) (sym (mul-sub (e * k) b a))) in
    rw (p.shape, q.shape, lt-ltb (m * k) (n * e) less) (round_same binary32 true (n * e - m * k) (e * k) (b - a) 1 positive (lit< tt) over)

-- 128 is taken off
pub back : (z : ℤ) → mag z < 128 → sub binary32 (of_int binary32 (pos (above z))) (fin false 1 (pos 7)) ≡ of_int binary32 z
unfolding of_int
back (pos n) h =
    let e : sub binary32 (round binary32 false (n + 128) 1) (fin false 1 (pos 7)) ≡ round binary32 false (n + 128 - 2 ^ 7) 1 = simp mul-one at (sub_is (whole (n + 128) (omega arith)) (power 7) (omega arith)) in
    let s : n + 128 - 2 ^ 7 ≡ n = omega arith in
    e ∙ ap (λ (j : ℕ). round binary32 false j 1) s
back (negsuc k) h =
    let s : 2 ^ 7 - (127 - k) ≡ suc k = omega arith in
    below (whole (127 - k) (omega arith)) (power 7) (omega arith) ∙ ap (λ (j : ℕ). round binary32 true j 1) s
