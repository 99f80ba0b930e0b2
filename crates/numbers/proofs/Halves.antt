-- A whole number of 32 bits by its two halves: the upper one, which has the sign, and the lower one are floats exactly, and so is the upper one times 2 ^ 16. Their sum is then rounded once, from the number itself. Assumes nothing.
use Rattle.std.proofs.Common.{◌≡◌, ℕ, suc, ◌-◌, ◌*◌, ◌/◌, ◌%◌, ◌^◌, ◌<◌, true, false, T, ℤ, pos, negsuc, sym, refl, ap, ◌∙◌, true≢false, lt_of_lt_of_le, lt_of_le_of_lt, le_of_lt, mul_assoc, mul_comm, mul-lt-mul_of_pos_right, mul-pos, one-mul, mul-one, mul_right_comm, arith, lit<, lit≤, le→leb, lt→ltb, shl_lt, w32, to_z, of_z, le-ltb, lt-ltb}
use mathlib.Core.Bool.{false≢true}
use native.Mathlib.Nat.{mul-sub}
use lib.Bits.{bit_and, and_mask}
use lib.Signed.{mag, shr_z, mag_shr}
use lib.Ieee.{Float, nan, inf, fin, binary32, up, down, round, add, sum, mul, of_int, in_float, of_bits}
use lib.Ieee.Back.{round_whole}
use lib.Ieee.Exact.{HasValue, round_exact}
use lib.Ieee.Fits.{down_pos}
use lib.Ieee.Scale.{round_same}
use mir.ValLaws.{to_z_pos}
use Rattle.std.proofs.num.Nearest.{halves_masked, two_to_16}
use Rattle.numbers.proofs.Signed.{read_is}

-- ---- a negative whole number, scaled and added to

scaled : (m e a p : ℕ) → m * 1 ≡ a * e → m * (1 * p) * 1 ≡ a * p * (e * 1)
scaled m e a p h = let k : m ≡ a * e = rw mul-one at h in rw (mul-one, one-mul, mul-one, k) (mul_right_comm a e p)

mul_at : (x : Float) (a : ℕ) → HasValue x true a 1 → mul binary32 x (fin false 1 (pos 16)) ≡ round binary32 true (a * 65536) 1
unfolding mul
mul_at nan a h = absurd h
mul_at (inf s) a h = absurd h
mul_at (fin false m e) a h = absurd (false≢true h.0)
mul_at (fin true m e) a h =
    round_same binary32 true (m * up e * (1 * 65536)) (down e * 1) (a * 65536) 1 (mul-pos (down_pos e) (lit< tt)) (lit< tt) (scaled (m * up e) (down e) a 65536 h.1)

times : (x : Float) (a : ℕ) → a < 2 ^ 24 → HasValue x true a 1 → HasValue (mul binary32 x (fin false 1 (pos 16))) true (a * 65536) 1
times x a h v =
    rw (mul_at x a v)
    (round_exact binary32 true (a * 65536) 1 a 165 (lit< tt) h (lt_of_lt_of_le (shl_lt 24 165 h) (lit≤ tt)) (mul_assoc a 65536 (2 ^ 149) ∙ sym (mul-one (a * 2 ^ 165))))

sub_mul : (m n k : ℕ) → (m - n) * k ≡ m * k - n * k
sub_mul m n k = mul_comm (m - n) k ∙ mul-sub k m n ∙ simp mul_comm

add_at : (x y : Float) (a b : ℕ) → HasValue x true a 1 → HasValue y false b 1 → b < a → add binary32 x y ≡ round binary32 true (a - b) 1
unfolding add sum
add_at nan y a b h k l = absurd h
add_at (inf s) y a b h k l = absurd h
add_at (fin s m e) nan a b h k l = absurd k
add_at (fin s m e) (inf t) a b h k l = absurd k
add_at (fin false m e) (fin t n d) a b h k l = absurd (false≢true h.0)
add_at (fin true m e) (fin true n d) a b h k l = absurd (true≢false k.0)
add_at (fin true m e) (fin false n d) a b h k l =
    let c = down e * down d in
    let C : 0 < c = mul-pos (down_pos e) (down_pos d) in
    let p : m * up e * down d ≡ a * c = ap (λ (z : ℕ). z * down d) (sym (mul-one (m * up e)) ∙ h.1) ∙ mul_assoc a (down e) (down d) in
    let q : n * up d * down e ≡ b * c = ap (λ (z : ℕ). z * down e) (sym (mul-one (n * up d)) ∙ k.1) ∙ mul_assoc b (down d) (down e) ∙ ap (λ (z : ℕ). b * z) (mul_comm (down d) (down e)) in
    let less : b * c < a * c = mul-lt-mul_of_pos_right l C in
    rw (p, q, le-ltb (a * c) (b * c) (le_of_lt less), lt-ltb (b * c) (a * c) less)
    (round_same binary32 true (a * c - b * c) c (a - b) 1 C (lit< tt) (mul-one (a * c - b * c) ∙ sym (sub_mul a b c)))

-- ---- the halves

-- the lower half
abbrev lower_half : ℤ → ℕ
lower_half (pos m) = m % 65536
lower_half (negsuc m) = 65535 - m % 65536

halves : (n : ℤ) → mag n < 2 ^ 31 → add binary32 (mul binary32 (of_int binary32 (shr_z n 65536)) (fin false 1 (pos 16))) (of_int binary32 (pos (lower_half n))) ≡ of_int binary32 n
unfolding of_int
halves (pos m) h = rw (and_mask m 16) at (halves_masked binary32 16 m (fin false 1 (pos 16)) refl (lit≤ tt) (lit≤ tt) (lt_of_lt_of_le h (lit≤ tt)))
halves (negsuc m) h =
    let q = suc (m / 65536) in
    let e : q * 65536 - (65535 - m % 65536) ≡ suc m = omega arith in
    add_at _ _ (q * 65536) (65535 - m % 65536) (times (round binary32 true q 1) q (omega arith) (round_whole binary32 true q (omega arith))) (round_whole binary32 false (65535 - m % 65536) (omega arith)) (omega arith)
    ∙ ap (λ (z : ℕ). round binary32 true z 1) e

masked : (n : ℤ) → mag n < 2 ^ 31 → of_z w32 n % 65536 ≡ lower_half n
masked (pos m) h = refl
masked (negsuc m) h = omega arith

lower_small : (n : ℤ) → lower_half n < 65536
lower_small (pos m) = omega arith
lower_small (negsuc m) = omega arith

upper_fits : (n : ℤ) → mag n < 2 ^ 31 → T (in_float binary32 (shr_z n 65536))
unfolding in_float
upper_fits (pos m) h = le→leb (m / 65536) (2 ^ 24) (omega arith)
upper_fits (negsuc m) h = lt→ltb (m / 65536) (2 ^ 24) (omega arith)

lower_fits : (m : ℕ) → m < 65536 → T (in_float binary32 (pos m))
unfolding in_float
lower_fits m h = le→leb m (2 ^ 24) (omega arith)

-- ---- as the machine has them

module _ (n : ℤ) (h : mag n < 2 ^ 31) where
  upper_is : to_z w32 (of_z w32 (shr_z (to_z w32 (of_z w32 n)) 65536)) ≡ shr_z n 65536
  upper_is = ap (λ (z : ℤ). to_z w32 (of_z w32 (shr_z z 65536))) (read_is w32 n h) ∙ read_is w32 (shr_z n 65536) (lt_of_le_of_lt (mag_shr n 65536) h)

  lower_is : to_z w32 (bit_and (of_z w32 n) 65535) ≡ pos (lower_half n)
  lower_is = ap (to_z w32) (and_mask (of_z w32 n) 16 ∙ masked n h) ∙ to_z_pos w32 (lower_half n) (lt_of_lt_of_le (lower_small n) (lit≤ tt))

  pub upper_in : T (in_float binary32 (to_z w32 (of_z w32 (shr_z (to_z w32 (of_z w32 n)) 65536))))
  upper_in = rw upper_is (upper_fits n h)

  pub lower_in : T (in_float binary32 (to_z w32 (bit_and (of_z w32 n) 65535)))
  lower_in = rw lower_is (lower_fits (lower_half n) (lower_small n))

  pub halves_sum : add binary32 (mul binary32 (of_int binary32 (to_z w32 (of_z w32 (shr_z (to_z w32 (of_z w32 n)) 65536)))) (of_bits binary32 0x4780_0000)) (of_int binary32 (to_z w32 (bit_and (of_z w32 n) 65535))) ≡ of_int binary32 n
  halves_sum = rw (upper_is, lower_is, two_to_16) (halves n h)
