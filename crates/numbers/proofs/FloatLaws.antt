-- Laws of floats under exchange and negation, in both formats: the factors of a product may change places, a product is negated with a factor, and a sum of negations is the negated sum but for the sign of a zero. Assumes nothing.
use Rattle.std.proofs.Common.{◌≡◌, ℕ, zero, suc, ◌+◌, ◌-◌, ◌*◌, ◌/◌, ◌%◌, ◌^◌, Bool, true, false, cond, not, ◌&&◌, eqb, ltb, pos, refl, ap, ◌∙◌, add-zero, zero-lt-suc, mul_comm, zero-add, zero-mul, arith, pow_pos, ltb-false, le-ltb, lt-ltb}
use Prim.Native.Nat.compare
use Prim.Native.Nat.{compare}
use native.Mathlib.Nat.{sub-zero, zero-div, zero-mod}
use lib.Ieee.{Float, nan, inf, fin, Format, prec, emax, low, unlike, up, down, size, nearest, odd, units, round, neg, sum, add, mul}
use lib.Ieee.Fits.{round_is}
use Rattle.numbers.specs.Alike.{Alike, same, zeros}

-- ---- the factors of a product may change places

unlike_comm : (s t : Bool) → unlike s t ≡ unlike t s
unlike_comm true true = refl
unlike_comm true false = refl
unlike_comm false true = refl
unlike_comm false false = refl

pub mul_swap : (f : Format) (x y : Float) → mul f x y ≡ mul f y x
unfolding mul
mul_swap f nan nan = refl
mul_swap f nan (inf t) = refl
mul_swap f nan (fin t n d) = refl
mul_swap f (inf s) nan = refl
mul_swap f (inf s) (inf t) = ap inf (unlike_comm s t)
mul_swap f (inf s) (fin t n d) = rw (unlike_comm s t)
mul_swap f (fin s m e) nan = refl
mul_swap f (fin s m e) (inf t) = rw (unlike_comm s t)
mul_swap f (fin s m e) (fin t n d) = rw (unlike_comm s t, mul_comm (m * up e) (n * up d), mul_comm (down e) (down d))

-- ---- what is rounded with the other sign is negated

neg_cond : (b : Bool) (x y : Float) → cond b (neg x) (neg y) ≡ neg (cond b x y)
neg_cond true x y = refl
neg_cond false x y = refl

neg_odd : (d : ℕ) (s : Bool) (q k l : ℕ) → odd d (not s) q k l ≡ neg (odd d s q k l)
unfolding odd neg
neg_odd d s zero k l = refl
neg_odd d s (suc q) k l = refl

neg_units : (f : Format) (s : Bool) (q k : ℕ) → units f (not s) q k ≡ neg (units f s q k)
unfolding units neg
neg_units f s q k =
    rw (neg_odd (suc (prec f)) s q k (low f)) (neg_cond (ltb (q * 2 ^ k) (2 ^ (low f + suc (emax f)))) (odd (suc (prec f)) s q k (low f)) (inf s))

pub neg_round : (f : Format) (s : Bool) (a c : ℕ) → round f (not s) a c ≡ neg (round f s a c)
neg_round f s a c = rw (round_is f (not s) a c, round_is f s a c) (neg_units f s _ _)

-- ---- a product is negated with its first factor, its bits too

unlike_not : (s t : Bool) → unlike (not s) t ≡ not (unlike s t)
unlike_not true true = refl
unlike_not true false = refl
unlike_not false true = refl
unlike_not false false = refl

neg_test : (b s : Bool) → cond b nan (inf (not s)) ≡ neg (cond b nan (inf s))
unfolding neg
neg_test true s = refl
neg_test false s = refl

pub neg_mul : (f : Format) (x y : Float) → mul f (neg x) y ≡ neg (mul f x y)
unfolding mul neg
neg_mul f nan y = refl
neg_mul f (inf s) nan = refl
neg_mul f (inf s) (inf t) = ap inf (unlike_not s t)
neg_mul f (inf s) (fin t n d) = rw (unlike_not s t) (neg_test (eqb n 0) (unlike s t))
neg_mul f (fin s m e) nan = refl
neg_mul f (fin s m e) (inf t) = rw (unlike_not s t) (neg_test (eqb m 0) (unlike s t))
neg_mul f (fin s m e) (fin t n d) = rw (unlike_not s t) (neg_round f (unlike s t) (m * up e * (n * up d)) (down e * down d))

-- ---- nothing, rounded, is a zero with the sign that it is given

nearest_none : (u : ℕ) → nearest 0 (compare 0 u) ≡ 0
nearest_none zero = refl
nearest_none (suc u) = rw (compare.zero-suc u)

units_none : (f : Format) (s : Bool) (k : ℕ) → units f s 0 k ≡ fin s 0 (pos 0)
unfolding units odd
units_none f s k = rw (zero-mul (2 ^ k), lt-ltb 0 (2 ^ (low f + suc (emax f))) (pow_pos (low f + suc (emax f))))

round_none : (f : Format) (s : Bool) (c : ℕ) → round f s 0 c ≡ fin s 0 (pos 0)
round_none f s c =
    let k = size (0 * 2 ^ low f / c) - prec f in
    let u = c * 2 ^ k in
    round_is f s 0 c
    ∙ ap (λ (n : ℕ). units f s (nearest (n / u) (compare (n % u * 2) u)) k) (zero-mul (2 ^ low f))
    ∙ ap (λ (n : ℕ). units f s (nearest n (compare (0 % u * 2) u)) k) (zero-div u)
    ∙ ap (λ (n : ℕ). units f s (nearest 0 (compare (n * 2) u)) k) (zero-mod u)
    ∙ ap (λ (n : ℕ). units f s n k) (nearest_none u)
    ∙ units_none f s k

-- ---- floats that are alike

pub alike_by : {a b : Float} → a ≡ b → Alike a b
alike_by e = rw e same

alike_back : {a b : Float} → Alike a b → Alike b a
alike_back same = same
alike_back (zeros s t) = zeros t s

pub alike_then : {a b c : Float} → Alike a b → Alike b c → Alike a c
alike_then same q = q
alike_then (zeros s t) same = zeros s t
alike_then (zeros s t) (zeros v u) = zeros s u

-- nothing, rounded, is alike, whatever its sign
none_alike : (f : Format) (s t : Bool) (c : ℕ) → Alike (round f s 0 c) (round f t 0 c)
none_alike f s t c = rw (round_none f s c, round_none f t c) (zeros s t)

-- ---- products of what is alike are alike

mul_zeros : (f : Format) (s t : Bool) (y : Float) → Alike (mul f (fin s 0 (pos 0)) y) (mul f (fin t 0 (pos 0)) y)
unfolding mul
mul_zeros f s t nan = same
mul_zeros f s t (inf u) = same
mul_zeros f s t (fin u n d) = rw (zero-mul (n * up d)) (none_alike f (unlike s u) (unlike t u) (1 * down d))

pub mul_alike : (f : Format) {a b : Float} (y : Float) → Alike a b → Alike (mul f a y) (mul f b y)
mul_alike f y same = same
mul_alike f y (zeros s t) = mul_zeros f s t y

-- ---- sums of what is alike are alike

-- a zero, whatever its sign, adds nothing, from the left or from the right
module _ (f : Format) (c : ℕ) where
  left : (s t : Bool) (b : ℕ) → Alike (sum f s 0 t b c) (round f t b c)
  unfolding sum
  left true true b = rw (zero-add b) same
  left false false b = rw (zero-add b) same
  left true false zero = none_alike f false false c
  left true false (suc b) = rw (lt-ltb 0 (suc b) (zero-lt-suc b), sub-zero (suc b)) same
  left false true zero = none_alike f false true c
  left false true (suc b) = rw (lt-ltb 0 (suc b) (zero-lt-suc b), sub-zero (suc b)) same

  right : (s t : Bool) (b : ℕ) → Alike (sum f t b s 0 c) (round f t b c)
  unfolding sum
  right true true b = rw (add-zero b) same
  right false false b = rw (add-zero b) same
  right true false zero = none_alike f false false c
  right true false (suc b) = rw (le-ltb (suc b) 0 (omega arith), sub-zero (suc b)) same
  right false true zero = none_alike f false true c
  right false true (suc b) = rw (le-ltb (suc b) 0 (omega arith), lt-ltb 0 (suc b) (zero-lt-suc b), sub-zero (suc b)) same

left_zeros : (f : Format) (s t : Bool) (y : Float) → Alike (add f (fin s 0 (pos 0)) y) (add f (fin t 0 (pos 0)) y)
unfolding add
left_zeros f s t nan = same
left_zeros f s t (inf u) = same
left_zeros f s t (fin u n d) =
    rw (zero-mul (down d)) (alike_then (left f (1 * down d) s u (n * up d * 1)) (alike_back (left f (1 * down d) t u (n * up d * 1))))

right_zeros : (f : Format) (s t : Bool) (y : Float) → Alike (add f y (fin s 0 (pos 0))) (add f y (fin t 0 (pos 0)))
unfolding add
right_zeros f s t nan = same
right_zeros f s t (inf u) = same
right_zeros f s t (fin u n d) =
    rw (zero-mul (down d)) (alike_then (right f (down d * 1) s u (n * up d * 1)) (alike_back (right f (down d * 1) t u (n * up d * 1))))

add_left : (f : Format) {a b : Float} (y : Float) → Alike a b → Alike (add f a y) (add f b y)
add_left f y same = same
add_left f y (zeros s t) = left_zeros f s t y

add_right : (f : Format) {a b : Float} (y : Float) → Alike a b → Alike (add f y a) (add f y b)
add_right f y same = same
add_right f y (zeros s t) = right_zeros f s t y

pub add_alike : (f : Format) {a b x y : Float} → Alike a b → Alike x y → Alike (add f a x) (add f b y)
add_alike f {a} {b} {x} {y} h k = alike_then (add_left f x h) (add_right f b k)

-- ---- a sum of negations is the negated sum, but that a zero may keep its sign

-- two magnitudes with unlike signs: p says whether a is the lesser, and q whether b is; if neither, the sum is +0.0 both times
against : (f : Format) (s : Bool) (a b c : ℕ) (p q : Bool) → ltb a b ≡ p → ltb b a ≡ q
    → Alike (cond p (round f s (b - a) c) (round f (not s && q) (a - b) c)) (neg (cond p (round f (not s) (b - a) c) (round f (s && q) (a - b) c)))
unfolding neg
against f true a b c true q g h = alike_by (neg_round f false (b - a) c)
against f false a b c true q g h = alike_by (neg_round f true (b - a) c)
against f true a b c false true g h = alike_by (neg_round f true (a - b) c)
against f false a b c false true g h = alike_by (neg_round f false (a - b) c)
against f true a b c false false g h = let e : a - b ≡ 0 = omega (arith, ltb-false a b g, ltb-false b a h) in rw (e, round_none f false c) (zeros false true)
against f false a b c false false g h = let e : a - b ≡ 0 = omega (arith, ltb-false a b g, ltb-false b a h) in rw (e, round_none f false c) (zeros false true)

neg_sum : (f : Format) (s : Bool) (a : ℕ) (t : Bool) (b c : ℕ) → Alike (sum f (not s) a (not t) b c) (neg (sum f s a t b c))
unfolding sum
neg_sum f true a true b c = alike_by (neg_round f true (a + b) c)
neg_sum f false a false b c = alike_by (neg_round f false (a + b) c)
neg_sum f true a false b c = against f true a b c (ltb a b) (ltb b a) refl refl
neg_sum f false a true b c = against f false a b c (ltb a b) (ltb b a) refl refl

pub neg_add : (f : Format) (x y : Float) → Alike (add f (neg x) (neg y)) (neg (add f x y))
unfolding add neg
neg_add f nan y = same
neg_add f (inf s) nan = same
neg_add f (inf true) (inf true) = same
neg_add f (inf true) (inf false) = same
neg_add f (inf false) (inf true) = same
neg_add f (inf false) (inf false) = same
neg_add f (inf s) (fin t n d) = same
neg_add f (fin s m e) nan = same
neg_add f (fin s m e) (inf t) = same
neg_add f (fin s m e) (fin t n d) = neg_sum f s (m * up e * down d) t (n * up d * down e) (down e * down d)
