-- Floats that are not negative, by the fractions that they equal: their order, sum, difference and whole part are the fractions'. Assumes nothing.
use mathlib.Core.Path.{◌≡◌, refl, sym, ap, ◌∙◌}
use mathlib.Core.Bool.{Bool, true, false, true≢false}
use Prim.Native.Nat.{ℕ, ◌+◌, ◌-◌, ◌*◌, ◌/◌, ◌^◌, ◌≤◌, ◌<◌, min}
use native.Mathlib.Nat.{lt_of_not-le, not-le_of_lt, mul_comm, mul_assoc, mul_left_comm, mul-pos, one-mul, add-mul, mul-sub}
use borrow.Author.Tests.{lt-ltb, le-ltb, ltb-true, ltb-false}
use lib.Dec.{ltb, lit<}
use lib.IntN.{ℤ, pos}
use lib.Ieee.{Float, nan, inf, fin, binary32, up, down, round, lt, neg, sum, add, sub, to_signed}
use lib.Ieee.Fits.{down_pos}
use lib.Ieee.Exact.{HasValue}
use lib.Ieee.Nearest.{div_same}
use lib.Ieee.Order.{transfer}
use lib.Ieee.Scale.{round_same}

-- ---- numbers

-- two pairs in the same order compare alike
pub alike : (p q u v : ℕ) → (v ≤ u → q ≤ p) → (q ≤ p → v ≤ u) → ltb p q ≡ ltb u v
alike p q u v to back = by (ltb u v) refl
  where
    by : (t : Bool) → ltb u v ≡ t → ltb p q ≡ t
    by true e = lt-ltb p q (lt_of_not-le (λ (g : q ≤ p). not-le_of_lt (ltb-true u v e) (back g)))
    by false e = le-ltb p q (to (ltb-false u v e))

-- where n / p is a / c: the same over k and over d
over : (n p a c k d : ℕ) → n * c ≡ a * p → n * k * (c * d) ≡ a * d * (p * k)
over n p a c k d h = simp (mul_assoc, mul_comm, mul_left_comm) (simp (mul_assoc, mul_comm) at (ap (λ (z : ℕ). z * (k * d)) h))

other : (n p a c k d : ℕ) → n * c ≡ a * p → n * k * (d * c) ≡ a * d * (k * p)
other n p a c k d h = rw (mul_comm d c, mul_comm k p) (over n p a c k d h)

sub_mul : (m n k : ℕ) → (m - n) * k ≡ m * k - n * k
sub_mul m n k = mul_comm (m - n) k ∙ mul-sub k m n ∙ simp mul_comm

-- ---- floats

-- x is finite, its sign is plus, and it is a / c
pub record Fraction (x : Float) (a c : ℕ) : Type 0 where
  pub some : 0 < c
  pub digits : ℕ
  pub place : ℤ
  pub shape : x ≡ fin false digits place
  pub same : digits * up place * c ≡ a * down place

pub of_value : (x : Float) (a c : ℕ) → 0 < c → HasValue x false a c → Fraction x a c
of_value nan a c C h = absurd h
of_value (inf s) a c C h = absurd h
of_value (fin true m e) a c C h = absurd (true≢false h.0)
of_value (fin false m e) a c C h = record { some = C; digits = m; place = e; shape = refl; same = h.1 }

-- a finite float with the sign plus, ..
pub finite : (m : ℕ) (e : ℤ) → Fraction (fin false m e) (m * up e) (down e)
finite m e = record { some = down_pos e; digits = m; place = e; shape = refl; same = refl }

-- .. and 2 ^ j
pub power : (j : ℕ) → Fraction (fin false 1 (pos j)) (2 ^ j) 1
power j = record { some = lit< tt; digits = 1; place = pos j; shape = refl; same = ap (λ (n : ℕ). n * 1) (one-mul (2 ^ j)) }

pub to_value : {x : Float} {a c : ℕ} → Fraction x a c → HasValue x false a c
to_value p = rw p.shape (refl, p.same)

pub lt_is : {x y : Float} {a c b d : ℕ} → Fraction x a c → Fraction y b d → lt x y ≡ ltb (a * d) (b * c)
unfolding lt
lt_is {x} {y} {a} {c} {b} {d} p q =
    let m = p.digits * up p.place in
    let n = q.digits * up q.place in
    let e = down p.place in
    let k = down q.place in
    rw (p.shape, q.shape)
    (alike (m * k) (n * e) (a * d) (b * c) (transfer n m k e b a d c q.some p.some q.same p.same) (transfer b a d c n m k e (down_pos q.place) (down_pos p.place) (sym q.same) (sym p.same)))

pub add_is : {x y : Float} {a c b d : ℕ} → Fraction x a c → Fraction y b d → add binary32 x y ≡ round binary32 false (a * d + b * c) (c * d)
unfolding add sum
add_is {x} {y} {a} {c} {b} {d} p q =
    let m = p.digits * up p.place in
    let n = q.digits * up q.place in
    let e = down p.place in
    let k = down q.place in
    let u = over m e a c k d p.same in
    let v = other n k b d e c q.same in
    rw (p.shape, q.shape)
    (round_same binary32 false (m * k + n * e) (e * k) (a * d + b * c) (c * d) (mul-pos (down_pos p.place) (down_pos q.place)) (mul-pos p.some q.some)
    (add-mul (m * k) (n * e) (c * d) ∙ (rw (u, v)) ∙ sym (add-mul (a * d) (b * c) (e * k))))

pub sub_is : {x y : Float} {a c b d : ℕ} → Fraction x a c → Fraction y b d → b * c ≤ a * d → sub binary32 x y ≡ round binary32 false (a * d - b * c) (c * d)
unfolding sub add sum neg
sub_is {x} {y} {a} {c} {b} {d} p q l =
    let m = p.digits * up p.place in
    let n = q.digits * up q.place in
    let e = down p.place in
    let k = down q.place in
    let u = over m e a c k d p.same in
    let v = other n k b d e c q.same in
    rw (p.shape, q.shape, le-ltb (m * k) (n * e) (transfer n m k e b a d c q.some p.some q.same p.same l))
    (round_same binary32 false (m * k - n * e) (e * k) (a * d - b * c) (c * d) (mul-pos (down_pos p.place) (down_pos q.place)) (mul-pos p.some q.some)
    (sub_mul (m * k) (n * e) (c * d) ∙ (rw (u, v)) ∙ sym (sub_mul (a * d) (b * c) (e * k))))

-- the whole part
pub cut_is : (h : ℕ) {x : Float} {a c : ℕ} → Fraction x a c → to_signed h x ≡ pos (min (a / c) (2 ^ h - 1))
unfolding to_signed
cut_is h {x} {a} {c} p =
    rw p.shape (ap (λ (n : ℕ). pos (min n (2 ^ h - 1))) (div_same (p.digits * up p.place) (down p.place) a c (down_pos p.place) p.some p.same))
