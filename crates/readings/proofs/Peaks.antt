-- The largest of the first n of a row of numbers, 0 where there is none, and that it may be taken in eight lanes. Assumes nothing.
use mathlib.Core.Path.{◌≡◌, refl, sym, ap, ◌∙◌}
use Prim.Native.Nat.{ℕ, zero, suc, ◌+◌, ◌*◌, ◌<◌, max}
use native.Mathlib.Nat.{le-suc, le_refl, lt_of_lt_of_le, add-zero, add-suc, mul-suc}
use native.Mathlib.Omega.{arith}

abbrev pub peak : (ℕ → ℕ) → ℕ → ℕ
peak f zero = 0
peak f (suc n) = max (peak f n) (f n)

pub peak_same : (f g : ℕ → ℕ) (n : ℕ) → ((i : ℕ) → i < n → f i ≡ g i) → peak f n ≡ peak g n
peak_same f g zero h = refl
peak_same f g (suc n) h = rw (peak_same f g n (λ i k. h i (lt_of_lt_of_le k (le-suc n))), h n (le_refl (suc n)))

pub peak_both : (f g : ℕ → ℕ) (n : ℕ) → peak (λ i. max (f i) (g i)) n ≡ max (peak f n) (peak g n)
peak_both f g zero = refl
peak_both f g (suc n) = rw (peak_both f g n) (omega arith)

pub peak_add : (f : ℕ → ℕ) (a b : ℕ) → peak f (a + b) ≡ max (peak f a) (peak (λ i. f (a + i)) b)
peak_add f a zero = rw (add-zero a) (omega arith)
peak_add f a (suc b) = rw (add-suc a b, peak_add f a b) (omega arith)

-- the second half may be met with the first, place by place
pub peak_halves : (f : ℕ → ℕ) (n : ℕ) → peak (λ i. max (f i) (f (n + i))) n ≡ peak f (n + n)
peak_halves f n = peak_both f (λ i. f (n + i)) n ∙ sym (peak_add f n n)

-- t numbers in each of eight lanes
pub lanes_peak : (f : ℕ → ℕ) (t : ℕ) → peak (λ l. peak (λ q. f (8 * q + l)) t) 8 ≡ peak f (8 * t)
lanes_peak f zero = refl
lanes_peak f (suc t) =
    peak_both (λ l. peak (λ q. f (8 * q + l)) t) (λ l. f (8 * t + l)) 8
    ∙ ap (λ (n : ℕ). max n (peak (λ l. f (8 * t + l)) 8)) (lanes_peak f t)
    ∙ sym (peak_add f (8 * t) 8)
    ∙ ap (peak f) (sym (mul-suc 8 t))
