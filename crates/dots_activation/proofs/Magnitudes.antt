-- Laws of whole numbers: the magnitude of a sum and of a product, when a width holds a number, and that a product goes over a sum. Assumes nothing.
use mathlib.Core.Path.{◌≡◌, refl, sym, ap, ◌∙◌}
use mathlib.Core.Bool.{Bool, true, false, not, cond}
use Prim.Native.Nat.{ℕ, zero, suc, ◌+◌, ◌*◌, ◌-◌, ◌^◌, ◌≤◌, ◌<◌}
use native.Mathlib.Nat.{le_trans, lt_of_le_of_lt, mul-le-mul}
use native.Mathlib.Omega.{arith}
use lib.Dec.{T, ltb, ltb→lt, nltb→le}
use lib.IntN.{ℤ, pos, negsuc, suc_ℤ, pred_ℤ, neg_ℤ, nat_abs, sub_ℕ, ◌+ℤ◌, ◌-ℤ◌, ◌*ℤ◌, +ℤ_assoc, +ℤ_comm, +ℤ_idl, *ℤ_comm, zero-*ℤ, suc_ℤ-+ℤ, pred_ℤ-+ℤ, suc_ℤ-*ℤ, pred_ℤ-*ℤ}
use lib.Signed.{mag, nat_abs-le}
use mir.Syntax.{Width}
use mir.Val.{SFits, hbits}
use Rattle.dots_activation.specs.Whole.{Within}

-- ---- magnitudes

abs_sub : (a b : ℕ) → nat_abs (sub_ℕ a (suc b)) ≤ a + suc b
abs_sub a b = by (ltb a (suc b)) (nltb→le a (suc b))
  where
    by : (t : Bool) → (T (not t) → suc b ≤ a) → nat_abs (cond t (negsuc (suc b - suc a)) (pos (a - suc b))) ≤ a + suc b
    by true h = omega arith
    by false h = omega arith

abs_add : (a b : ℤ) → nat_abs (a +ℤ b) ≤ nat_abs a + nat_abs b
abs_add (pos a) (pos b) = omega arith
abs_add (pos a) (negsuc b) = abs_sub a b
abs_add (negsuc a) (pos b) = omega (arith, abs_sub b a)
abs_add (negsuc a) (negsuc b) = omega arith

abs_neg : (z : ℤ) → nat_abs (neg_ℤ z) ≡ nat_abs z
abs_neg (pos zero) = refl
abs_neg (pos (suc n)) = refl
abs_neg (negsuc n) = refl

abs_mul : (a b : ℤ) → nat_abs (a *ℤ b) ≡ nat_abs a * nat_abs b
abs_mul (pos a) (pos b) = refl
abs_mul (pos a) (negsuc b) = abs_neg (pos (a * suc b))
abs_mul (negsuc a) (pos b) = abs_neg (pos (suc a * b))
abs_mul (negsuc a) (negsuc b) = refl

pub within : {z : ℤ} {A B : ℕ} → Within A z → A ≤ B → Within B z
within p h = record { abs = le_trans p.abs h }

pub pos_within : {n B : ℕ} → n ≤ B → Within B (pos n)
pos_within h = record { abs = h }

pub add_within : {a b : ℤ} {A B : ℕ} → Within A a → Within B b → Within (A + B) (a +ℤ b)
add_within {a} {b} p q = record { abs = omega (arith, abs_add a b, p.abs, q.abs) }

pub mul_within : {a b : ℤ} {A B : ℕ} → Within A a → Within B b → Within (A * B) (a *ℤ b)
mul_within {a} {b} p q = record { abs = rw abs_mul (mul-le-mul p.abs q.abs) }

-- ---- a signed width

mag_abs : (z : ℤ) → mag z ≤ nat_abs z
mag_abs (pos n) = omega arith
mag_abs (negsuc n) = omega arith

-- a width holds what is within a bound below its half; at a numeral the test computes
pub fits_within : {w : Width} {z : ℤ} {B : ℕ} → Within B z → T (ltb B (2 ^ hbits w)) → SFits w z
fits_within {w} {z} {B} p t = record { sfits = lt_of_le_of_lt (mag_abs z) (lt_of_le_of_lt p.abs (ltb→lt B (2 ^ hbits w) t)) }

-- and what it holds is within its half
pub within_width : (w : Width) (z : ℤ) → mag z < 2 ^ hbits w → Within (2 ^ hbits w) z
within_width w z p = record { abs = nat_abs-le z p }

-- ---- a product goes over a sum

swap : (a b c : ℤ) → a +ℤ b +ℤ c ≡ a +ℤ c +ℤ b
swap a b c = +ℤ_assoc a b c ∙ ap (λ x. a +ℤ x) (+ℤ_comm b c) ∙ sym (+ℤ_assoc a c b)

up : (a b c : ℤ) → (a +ℤ b) *ℤ c ≡ a *ℤ c +ℤ b *ℤ c → (suc_ℤ a +ℤ b) *ℤ c ≡ suc_ℤ a *ℤ c +ℤ b *ℤ c
up a b c h = ap (λ x. x *ℤ c) (suc_ℤ-+ℤ a b) ∙ suc_ℤ-*ℤ (a +ℤ b) c ∙ ap (λ x. x +ℤ c) h ∙ swap (a *ℤ c) (b *ℤ c) c ∙ ap (λ x. x +ℤ b *ℤ c) (sym (suc_ℤ-*ℤ a c))

down : (a b c : ℤ) → (a +ℤ b) *ℤ c ≡ a *ℤ c +ℤ b *ℤ c → (pred_ℤ a +ℤ b) *ℤ c ≡ pred_ℤ a *ℤ c +ℤ b *ℤ c
down a b c h = ap (λ x. x *ℤ c) (pred_ℤ-+ℤ a b) ∙ pred_ℤ-*ℤ (a +ℤ b) c ∙ ap (λ x. x -ℤ c) h ∙ swap (a *ℤ c) (b *ℤ c) (neg_ℤ c) ∙ ap (λ x. x +ℤ b *ℤ c) (sym (pred_ℤ-*ℤ a c))

over_pos : (n : ℕ) (b c : ℤ) → (pos n +ℤ b) *ℤ c ≡ pos n *ℤ c +ℤ b *ℤ c
over_pos zero b c = ap (λ x. x *ℤ c) (+ℤ_idl b) ∙ sym (+ℤ_idl (b *ℤ c)) ∙ ap (λ x. x +ℤ b *ℤ c) (sym (zero-*ℤ c))
over_pos (suc n) b c = up (pos n) b c (over_pos n b c)

over_neg : (n : ℕ) (b c : ℤ) → (negsuc n +ℤ b) *ℤ c ≡ negsuc n *ℤ c +ℤ b *ℤ c
over_neg zero b c = down (pos zero) b c (over_pos zero b c)
over_neg (suc n) b c = down (negsuc n) b c (over_neg n b c)

+ℤ-*ℤ : (a b c : ℤ) → (a +ℤ b) *ℤ c ≡ a *ℤ c +ℤ b *ℤ c
+ℤ-*ℤ (pos n) b c = over_pos n b c
+ℤ-*ℤ (negsuc n) b c = over_neg n b c

pub *ℤ-+ℤ : (a b c : ℤ) → a *ℤ (b +ℤ c) ≡ a *ℤ b +ℤ a *ℤ c
*ℤ-+ℤ a b c = *ℤ_comm a (b +ℤ c) ∙ +ℤ-*ℤ b c a ∙ ap (λ x. x +ℤ c *ℤ a) (*ℤ_comm b a) ∙ ap (λ x. a *ℤ b +ℤ x) (*ℤ_comm c a)
