-- Sums over a range: one more term, how large a sum is, and how it is split, scaled, taken in runs and cut. Assumes nothing.
use mathlib.Core.Path.{◌≡◌, refl, sym, ap, ◌∙◌}
use Prim.Native.Nat.{ℕ, zero, suc, ◌+◌, ◌*◌, ◌-◌, ◌≤◌, ◌<◌}
use native.Mathlib.Nat.{add-zero, add-suc, mul-zero, mul-suc, suc-mul}
use native.Mathlib.Numerals.{add-one}
use native.Mathlib.Omega.{arith}
use lib.IntN.{ℤ, pos, ◌+ℤ◌, ◌*ℤ◌, +ℤ_assoc, +ℤ_comm, +ℤ_idr, *ℤ-zero}
use Rattle.dots_activation.specs.Whole.{sum_ℤ, Within}
use Rattle.dots_activation.proofs.Magnitudes.{pos_within, add_within, *ℤ-+ℤ}

pub sum_more : (f : ℕ → ℤ) (k : ℕ) → sum_ℤ f (k + 1) ≡ sum_ℤ f k +ℤ f k
unfolding sum_ℤ
sum_more f k = rw add-one

pub sum_within : (f : ℕ → ℤ) (B k : ℕ) → ((i : ℕ) → i < k → Within B (f i)) → Within (k * B) (sum_ℤ f k)
unfolding sum_ℤ
sum_within f B zero h = pos_within (omega arith)
sum_within f B (suc k) h = rw suc-mul (add_within (sum_within f B k (λ i p. h i (omega arith))) (h k (omega arith)))

pub sum_same : (f g : ℕ → ℤ) (k : ℕ) → ((i : ℕ) → i < k → f i ≡ g i) → sum_ℤ f k ≡ sum_ℤ g k
unfolding sum_ℤ
sum_same f g zero h = refl
sum_same f g (suc k) h = ap (λ x. x +ℤ f k) (sum_same f g k (λ i p. h i (omega arith))) ∙ ap (λ x. sum_ℤ g k +ℤ x) (h k (omega arith))

pub sum_split : (f : ℕ → ℤ) (a b : ℕ) → sum_ℤ f (a + b) ≡ sum_ℤ f a +ℤ sum_ℤ (λ i. f (a + i)) b
unfolding sum_ℤ
sum_split f a zero = rw (add-zero, +ℤ_idr)
sum_split f a (suc b) = rw (add-suc, sum_split f a b, +ℤ_assoc)

pub sum_scale : (c : ℤ) (f : ℕ → ℤ) (k : ℕ) → c *ℤ sum_ℤ f k ≡ sum_ℤ (λ i. c *ℤ f i) k
unfolding sum_ℤ
sum_scale c f zero = *ℤ-zero c
sum_scale c f (suc k) = *ℤ-+ℤ c (sum_ℤ f k) (f k) ∙ ap (λ x. x +ℤ c *ℤ f k) (sum_scale c f k)

-- ---- two terms a turn

shuffle : (a b c d : ℤ) → a +ℤ b +ℤ (c +ℤ d) ≡ a +ℤ c +ℤ (b +ℤ d)
shuffle a b c d =
    +ℤ_assoc a b (c +ℤ d)
    ∙ ap (λ x. a +ℤ x) (sym (+ℤ_assoc b c d) ∙ ap (λ x. x +ℤ d) (+ℤ_comm b c) ∙ +ℤ_assoc c b d)
    ∙ sym (+ℤ_assoc a c (b +ℤ d))

sum_both : (f g : ℕ → ℤ) (k : ℕ) → sum_ℤ (λ i. f i +ℤ g i) k ≡ sum_ℤ f k +ℤ sum_ℤ g k
unfolding sum_ℤ
sum_both f g zero = refl
sum_both f g (suc k) = ap (λ x. x +ℤ (f k +ℤ g k)) (sum_both f g k) ∙ shuffle (sum_ℤ f k) (sum_ℤ g k) (f k) (g k)

-- term i and term k + i in turn i
pub sum_halves : (f : ℕ → ℤ) (k : ℕ) → sum_ℤ (λ i. f i +ℤ f (k + i)) k ≡ sum_ℤ f (k + k)
sum_halves f k = sum_both f (λ i. f (k + i)) k ∙ sym (sum_split f k k)

-- ---- k runs of R

pub sum_runs : (f : ℕ → ℤ) (R k : ℕ) → sum_ℤ (λ j. sum_ℤ (λ l. f (R * j + l)) R) k ≡ sum_ℤ f (R * k)
unfolding sum_ℤ
sum_runs f R zero = rw mul-zero
sum_runs f R (suc k) = ap (λ x. x +ℤ sum_ℤ (λ l. f (R * k + l)) R) (sum_runs f R k) ∙ sym (sum_split f (R * k) R) ∙ ap (sum_ℤ f) (sym (mul-suc R k))

-- ---- places that are 0 from n on

sum_zero : (f : ℕ → ℤ) (k : ℕ) → ((i : ℕ) → i < k → f i ≡ pos 0) → sum_ℤ f k ≡ pos 0
unfolding sum_ℤ
sum_zero f zero h = refl
sum_zero f (suc k) h = ap (λ x. x +ℤ f k) (sum_zero f k (λ i p. h i (omega arith))) ∙ ap (λ x. pos 0 +ℤ x) (h k (omega arith))

-- a sum of sums, the other way round
pub sum_swap : (f : ℕ → ℕ → ℤ) (m n : ℕ) → sum_ℤ (λ i. sum_ℤ (f i) n) m ≡ sum_ℤ (λ j. sum_ℤ (λ i. f i j) m) n
unfolding sum_ℤ
sum_swap f m zero = sum_zero (λ i. sum_ℤ (f i) 0) m (λ i p. refl)
sum_swap f m (suc n) = sum_both (λ i. sum_ℤ (f i) n) (λ i. f i n) m ∙ ap (λ x. x +ℤ sum_ℤ (λ i. f i n) m) (sum_swap f m n)

-- a sum whose terms are 0 from n on stops there
pub sum_cut : (f : ℕ → ℤ) (n N : ℕ) → n ≤ N → ((i : ℕ) → n ≤ i → i < N → f i ≡ pos 0) → sum_ℤ f N ≡ sum_ℤ f n
sum_cut f n N h e =
    let s : N ≡ n + (N - n) = omega arith in
    ap (sum_ℤ f) s
    ∙ sum_split f n (N - n)
    ∙ ap (λ x. sum_ℤ f n +ℤ x) (sum_zero (λ i. f (n + i)) (N - n) (λ i p. e (n + i) (omega arith) (omega arith)))
    ∙ +ℤ_idr (sum_ℤ f n)
