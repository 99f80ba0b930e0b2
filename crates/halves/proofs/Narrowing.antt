-- `narrowed` is what document 01 says of `f32_to_f16`, and the only pattern that is. Assumes nothing.
use mathlib.Core.Path.{◌≡◌, refl, sym, ap, ◌∙◌}
use Prim.Native.Nat.{ℕ, zero, suc, ◌+◌, ◌-◌, ◌*◌, ◌/◌, ◌%◌, ◌^◌, ◌≤◌, ◌<◌}
use native.Mathlib.Nat.{mul_assoc, mul_right_comm, mul-le-mul_right, mul-lt-mul_of_pos_right, suc-mul}
use native.Mathlib.Numerals.{add-one}
use native.Mathlib.Omega.{arith}
use mathlib.Core.Bool.{Bool, true, false, cond}
use borrow.Author.Tests.{lt-leb, le-leb, leb-true, leb-false}
use lib.Dec.{leb}
use lib.Pow.{pow_pos, pow-add}
use Rattle.halves.specs.Binary16.{exponent, digits, multiple, multiple_of, exponent32, magnitude16, multiple32, narrowed, Narrows}

-- ---- the fields of what is made

small : (x t : ℕ) → t < 1024 → magnitude16 x t < 32768
small x t d = by (leb x 112) (leb 143 x) refl refl
  where
    by : (a b : Bool) → leb x 112 ≡ a → leb 143 x ≡ b → cond a 0 (cond b 31744 ((x - 112) * 1024 + t)) < 32768
    by true b e f = omega arith
    by false true e f = omega arith
    by false false e f = omega (arith, leb-false 143 x f)

exponent_is : (s x t : ℕ) → s < 2 → 112 < x → x < 143 → t < 1024 → (s * 32768 + ((x - 112) * 1024 + t)) / 1024 % 32 ≡ x - 112
exponent_is s x t a b c d = omega arith

digits_are : (s x t : ℕ) → t < 1024 → (s * 32768 + ((x - 112) * 1024 + t)) % 1024 ≡ t
digits_are s x t d = omega arith

-- ---- between the two ends

in_range : (b : ℕ) → 112 < exponent32 b → exponent32 b < 143 → narrowed b ≡ b / 2147483648 * 32768 + ((exponent32 b - 112) * 1024 + b / 8192 % 1024)
unfolding narrowed
in_range b h k = rw (lt-leb _ _ h, lt-leb _ _ k)

-- the number that is kept, in units of 2 ^ -149
raised : (m y : ℕ) → m * 2 ^ y * 2 ^ 125 ≡ m * 8192 * 2 ^ (y + 112)
raised m y =
    rw (pow-add 2 y 112, ← mul_assoc (m * 8192) (2 ^ y) (2 ^ 112), mul_right_comm m 8192 (2 ^ y), mul_assoc (m * 2 ^ y) 8192 (2 ^ 112))

-- ten digits t of d, which has thirteen more: the number is between t and one more
cut_at : (t d y : ℕ) → t * 8192 ≤ d → d < (t + 1) * 8192
    → ((1024 + t) * 2 ^ y * 2 ^ 125 ≤ (8388608 + d) * 2 ^ (y + 112)) × ((8388608 + d) * 2 ^ (y + 112) < ((1024 + t) * 2 ^ y + 2 ^ y) * 2 ^ 125)
cut_at t d y h k =
    let a : (1024 + t) * 8192 ≤ 8388608 + d = omega arith in
    let b : 8388608 + d < (1024 + t + 1) * 8192 = omega arith in
    let e : (1024 + t) * 2 ^ y + 2 ^ y ≡ (1024 + t + 1) * 2 ^ y = sym (rw add-one (suc-mul (1024 + t) (2 ^ y))) in
    (rw raised (mul-le-mul_right (2 ^ (y + 112)) a), rw (e, raised) (mul-lt-mul_of_pos_right b (pow_pos (y + 112))))

low_digits : (b : ℕ) → (b / 8192 % 1024 * 8192 ≤ b % 8388608) × (b % 8388608 < (b / 8192 % 1024 + 1) * 8192)
low_digits b = (omega arith, omega arith)

cut : (b : ℕ) → b < 2 ^ 32 → 112 < exponent32 b → exponent32 b < 143
    → (multiple_of (narrowed b) * 2 ^ 125 ≤ multiple32 b) × (multiple32 b < (multiple_of (narrowed b) + 2 ^ (exponent (narrowed b) - 1)) * 2 ^ 125)
cut b w h k =
    let x = exponent32 b in
    let t = b / 8192 % 1024 in
    let y = x - 113 in
    let s = b / 2147483648 in
    let s_lt : s < 2 = omega arith in
    let t_lt : t < 1024 = omega arith in
    let e : exponent (narrowed b) ≡ suc y = ap exponent (in_range b h k) ∙ exponent_is s x t s_lt h k t_lt ∙ (omega arith) in
    let d : digits (narrowed b) ≡ t = ap digits (in_range b h k) ∙ digits_are s x t t_lt in
    let m : multiple_of (narrowed b) ≡ (1024 + t) * 2 ^ y = rw (e, d) in
    let u : x - 1 ≡ y + 112 = omega arith in
    let q : exponent (narrowed b) - 1 ≡ y = omega arith in
    let l = low_digits b in
    let r = cut_at t (b % 8388608) y l.0 l.1 in
    (rw (m, u) r.0, rw (m, u, q) r.1)

-- ---- the sign and the two ends

sign_kept : (b : ℕ) → narrowed b / 32768 ≡ b / 2147483648
unfolding narrowed
sign_kept b = let t : b / 8192 % 1024 < 1024 = omega arith in let m = small (exponent32 b) (b / 8192 % 1024) t in omega arith

rest_is : (b : ℕ) → narrowed b % 32768 ≡ magnitude16 (exponent32 b) (b / 8192 % 1024)
unfolding narrowed
rest_is b = let t : b / 8192 % 1024 < 1024 = omega arith in let m = small (exponent32 b) (b / 8192 % 1024) t in omega arith

pub narrows : (b : ℕ) → b < 2 ^ 32 → Narrows b (narrowed b)
narrows b w =
    record {
      sign = sign_kept b;
      flushed = λ h. rest_is b ∙ rw (le-leb _ _ h);
      at_most = λ h k. (cut b w h k).0;
      next_above = λ h k. (cut b w h k).1;
      overflow = λ h. let l : 112 < exponent32 b = omega arith in rest_is b ∙ rw (lt-leb _ _ l, le-leb _ _ h);
    }

-- ---- no other pattern

-- the number of a magnitude m, which is a pattern's exponent's field and its digits, ..
abbrev at : ℕ → ℕ
at m = multiple (m / 1024) (m % 1024)

-- .. and one of its last digit
abbrev last : ℕ → ℕ
last m = 2 ^ (m / 1024 - 1)

-- one more of the last digit is the next digits, or the next exponent's field
within : (x t : ℕ) → multiple x t + 2 ^ (x - 1) ≡ multiple x (t + 1)
within zero t = refl
within (suc x) t =
    let e : 1024 + (t + 1) ≡ suc (1024 + t) = omega arith in
    let u : suc x - 1 ≡ x = omega arith in
    rw (e, u) (sym (suc-mul (1024 + t) (2 ^ x)))

over : (x : ℕ) → multiple x 1023 + 2 ^ (x - 1) ≡ multiple (suc x) 0
over zero = refl
over (suc x) =
    let e : 2 ^ suc x ≡ 2 ^ x * 2 = rw add-one at (pow-add 2 x 1) in
    let u : suc x - 1 ≡ x = omega arith in
    rw (u, e) (omega arith)

-- so the numbers of the magnitudes follow each other
next : (m : ℕ) → at m + last m ≡ at (m + 1)
next m = by (leb (m % 1024) 1022) refl
  where
    by : (a : Bool) → leb (m % 1024) 1022 ≡ a → at m + last m ≡ at (m + 1)
    by true e =
        let h = leb-true (m % 1024) 1022 e in
        let x : (m + 1) / 1024 ≡ m / 1024 = omega arith in
        let t : (m + 1) % 1024 ≡ m % 1024 + 1 = omega arith in
        rw (x, t) (within (m / 1024) (m % 1024))
    by false e =
        let h = leb-false (m % 1024) 1022 e in
        let x : (m + 1) / 1024 ≡ suc (m / 1024) = omega arith in
        let t : (m + 1) % 1024 ≡ 0 = omega arith in
        let u : m % 1024 ≡ 1023 = omega arith in
        rw (x, t, u) (over (m / 1024))

rising : (m k : ℕ) → at m ≤ at (m + k)
rising m zero = let e : m + 0 ≡ m = omega arith in rw e (omega arith)
rising m (suc k) = let e : m + suc k ≡ m + k + 1 = omega arith in rw (e, ← next (m + k)) (omega (arith, rising m k))

-- a number from m's on and below the next of n's: m is at most n
at_or_below : (m n v : ℕ) → at m * 2 ^ 125 ≤ v → v < (at n + last n) * 2 ^ 125 → m ≤ n
at_or_below m n v h k =
    let none : n < m → ⊥ =
    λ l. let e : m ≡ n + 1 + (m - (n + 1)) = omega arith in
    let a : at n + last n ≤ at m = rw (next n, e) (rising (n + 1) (m - (n + 1))) in
    omega (arith, mul-le-mul_right (2 ^ 125) a) in
    omega arith

-- a pattern's number is that of its magnitude
its_number : (h : ℕ) → (multiple_of h ≡ at (h % 32768)) × (2 ^ (exponent h - 1) ≡ last (h % 32768))
its_number h =
    let x : h % 32768 / 1024 ≡ exponent h = omega arith in
    let t : h % 32768 % 1024 ≡ digits h = omega arith in
    (rw (x, t), rw x)

-- What document 01 says is met by one pattern.
pub only_narrowed : (b h : ℕ) → b < 2 ^ 32 → Narrows b h → h ≡ narrowed b
only_narrowed b h w n =
    let k = narrows b w in
    let s = n.sign ∙ sym k.sign in
    let m = by k (leb (exponent32 b) 112) (leb 143 (exponent32 b)) refl refl in
    omega arith
  where
    by : Narrows b (narrowed b) → (l u : Bool) → leb (exponent32 b) 112 ≡ l → leb 143 (exponent32 b) ≡ u → h % 32768 ≡ narrowed b % 32768
    by k true u e f = let l = leb-true _ _ e in n.flushed l ∙ sym (k.flushed l)
    by k false true e f = let l = leb-true _ _ f in n.overflow l ∙ sym (k.overflow l)
    by k false false e f =
        let l = leb-false _ _ e in
        let u = leb-false _ _ f in
        let p = its_number h in
        let q = its_number (narrowed b) in
        let a = at_or_below (h % 32768) (narrowed b % 32768) (multiple32 b) (rw p.0 at (n.at_most l u)) (rw (q.0, q.1) at (k.next_above l u)) in
        let c = at_or_below (narrowed b % 32768) (h % 32768) (multiple32 b) (rw q.0 at (k.at_most l u)) (rw (p.0, p.1) at (n.next_above l u)) in
        omega arith
