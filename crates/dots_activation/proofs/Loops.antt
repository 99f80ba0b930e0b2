-- A loop that sums in a signed local, and products of signed locals, by the machine's bits. Assumes nothing.
use mathlib.Core.Path.{◌≡◌, sym, ap, ◌∙◌, subst}
use Prim.Native.Nat.{ℕ, ◌+◌, ◌*◌, ◌^◌, ◌<◌}
use native.Mathlib.Nat.{lt_of_lt_of_le, suc-mul, mul-le-mul_right}
use native.Mathlib.Numerals.{add-one}
use native.Mathlib.Omega.{arith}
use lib.Dec.{T, leb, ltb, leb→le}
use lib.IntN.{ℤ, pos, ◌+ℤ◌, ◌*ℤ◌}
use lib.Pow.{pow_pos}
use lib.Signed.{mag}
use mir.Syntax.{Width}
use mir.Val.{SFits, hbits, to_z, of_z}
use mir.ValLaws.{to_z-of_z, to_z_pos}
use Rattle.numbers.proofs.Signed.{read_is}
use Rattle.dots_activation.specs.Whole.{sum_ℤ, Within}
use Rattle.dots_activation.proofs.Magnitudes.{within, pos_within, add_within, mul_within, fits_within, within_width}
use Rattle.dots_activation.proofs.Ranges.{sum_more}

-- ---- the local that holds s, by a width w, holds the sum of the first k terms, each of them within B

pub record Acc (w : Width) (f : ℕ → ℤ) (B k : ℕ) (s : ℤ) : Type 0 where
  pub sum : s ≡ sum_ℤ f k
  pub near : Within (k * B) s

pub acc_none : (w : Width) (f : ℕ → ℤ) (B : ℕ) → Acc w f B 0 (to_z w 0)
unfolding sum_ℤ
acc_none w f B = let e : to_z w 0 ≡ pos 0 = to_z_pos w 0 (pow_pos (hbits w)) in record { sum = e; near = rw e (pos_within (omega arith)) }

-- one more term, x
module _ {w : Width} {f : ℕ → ℤ} {B k : ℕ} {s x : ℤ} (N : ℕ) (a : Acc w f B k s) (e : x ≡ f k) (b : Within B (f k)) (h : k < N) (t : T (ltb (N * B) (2 ^ hbits w))) where
  near' : Within ((k + 1) * B) (s +ℤ x)
  near' = rw (add-one, suc-mul, e) (add_within a.near b)

  pub acc_fits : SFits w (s +ℤ x)
  acc_fits = fits_within (within near' (mul-le-mul_right B (omega arith))) t

  pub acc_more : Acc w f B (k + 1) (to_z w (of_z w (s +ℤ x)))
  acc_more =
      let r : to_z w (of_z w (s +ℤ x)) ≡ s +ℤ x = to_z-of_z w (s +ℤ x) acc_fits in
      record { sum = r ∙ ap (λ y. y +ℤ x) a.sum ∙ ap (λ y. sum_ℤ f k +ℤ y) e ∙ sym (sum_more f k); near = subst (Within ((k + 1) * B)) (sym r) near' }

-- one more term, the result r of a call
module _ {w : Width} {f : ℕ → ℤ} {B k : ℕ} {s r : ℤ} (N : ℕ) (a : Acc w f B k s) (ok : mag r < 2 ^ hbits w) (e : r ≡ f k) (b : Within B r) (h : k < N) (t : T (ltb (N * B) (2 ^ hbits w))) where
  pub call_fits : SFits w (s +ℤ to_z w (of_z w r))
  call_fits = acc_fits N a (read_is w r ok ∙ e) (subst (Within B) e b) h t

  pub call_more : Acc w f B (k + 1) (to_z w (of_z w (s +ℤ to_z w (of_z w r))))
  call_more = acc_more N a (read_is w r ok ∙ e) (subst (Within B) e b) h t

-- once all N terms are in
pub acc_all : {w : Width} {f : ℕ → ℤ} {B k : ℕ} {s : ℤ} (N : ℕ) → Acc w f B k s → k ≡ N → (s ≡ sum_ℤ f N) × Within (N * B) s
acc_all {w} {f} {B} {k} {s} N a e = (a.sum ∙ ap (sum_ℤ f) e, subst (λ (n : ℕ). Within (n * B) s) e a.near)

-- ---- a number that a wider width takes

module _ (w w' : Width) (z : ℤ) (p : mag z < 2 ^ hbits w) (t : T (leb (2 ^ hbits w) (2 ^ hbits w'))) where
  pub wide_fits : SFits w' (to_z w (of_z w z))
  wide_fits = rw (read_is w z p) (record { sfits = lt_of_lt_of_le p (leb→le (2 ^ hbits w) (2 ^ hbits w') t) })

  pub wide_is : to_z w' (of_z w' (to_z w (of_z w z))) ≡ z
  wide_is = to_z-of_z w' (to_z w (of_z w z)) wide_fits ∙ read_is w z p

  pub wide_within : Within (2 ^ hbits w) (to_z w' (of_z w' (to_z w (of_z w z))))
  wide_within = subst (Within (2 ^ hbits w)) (sym wide_is) (within_width w z p)

-- ---- the product of two locals that hold x and y

module _ (w : Width) {p q x y : ℤ} {A B : ℕ} (e : p ≡ x) (f : q ≡ y) (a : Within A x) (b : Within B y) (t : T (ltb (A * B) (2 ^ hbits w))) where
  product_is : p *ℤ q ≡ x *ℤ y
  product_is = ap (λ (z : ℤ). z *ℤ q) e ∙ ap (λ (z : ℤ). x *ℤ z) f

  pub product_fits : SFits w (p *ℤ q)
  product_fits = fits_within (subst (Within (A * B)) (sym product_is) (mul_within a b)) t

  pub product_made : (to_z w (of_z w (p *ℤ q)) ≡ x *ℤ y) × Within (A * B) (to_z w (of_z w (p *ℤ q)))
  product_made = let r = to_z-of_z w (p *ℤ q) product_fits ∙ product_is in (r, subst (Within (A * B)) (sym r) (mul_within a b))

-- ---- the sum of two locals that hold x and y

module _ (w : Width) {p q x y : ℤ} {A B : ℕ} (e : p ≡ x) (f : q ≡ y) (a : Within A p) (b : Within B q) (t : T (ltb (A + B) (2 ^ hbits w))) where
  pub sum_fits : SFits w (p +ℤ q)
  sum_fits = fits_within (add_within a b) t

  pub sum_made : (to_z w (of_z w (p +ℤ q)) ≡ x +ℤ y) × Within (A + B) (to_z w (of_z w (p +ℤ q)))
  sum_made =
      let r = to_z-of_z w (p +ℤ q) sum_fits in
      (r ∙ ap (λ (z : ℤ). z +ℤ q) e ∙ ap (λ (z : ℤ). x +ℤ z) f, subst (Within (A + B)) (sym r) (add_within a b))

-- ---- the sum of two elements x and y, as they are read

module _ (w : Width) {x y : ℤ} {A B : ℕ} (p : mag x < 2 ^ hbits w) (q : mag y < 2 ^ hbits w) (a : Within A x) (b : Within B y) (t : T (ltb (A + B) (2 ^ hbits w))) where
  pub both_fit : SFits w (to_z w (of_z w x) +ℤ to_z w (of_z w y))
  both_fit = rw (read_is w x p, read_is w y q) (fits_within (add_within a b) t)

  pub both_are : to_z w (of_z w (to_z w (of_z w x) +ℤ to_z w (of_z w y))) ≡ x +ℤ y
  both_are = to_z-of_z w (to_z w (of_z w x) +ℤ to_z w (of_z w y)) both_fit ∙ ap (λ (z : ℤ). z +ℤ to_z w (of_z w y)) (read_is w x p) ∙ ap (λ (z : ℤ). x +ℤ z) (read_is w y q)
