-- What is gathered over places, by an addition of which the order is of no account, is the same in any order: sums of whole numbers, and the largest of a row of numbers. Assumes nothing.
use mathlib.Core.Path.{◌≡◌, refl, sym, ap, ◌∙◌}
use mathlib.Core.Bool.{Bool, true, false, cond}
use mathlib.Core.List.{List, [], ◌∷◌}
use Prim.Native.Nat.{ℕ, zero, suc, ◌+◌, ◌*◌, ◌/◌, ◌≤◌, ◌<◌, max}
use native.Mathlib.Nat.{max_comm, zero-max, add-zero, zero-add, add-suc, add_assoc, mul-zero, mul-suc, mul-add, mul-add-div, mul-add-mod_self_left, div-eq_of_lt, mod-eq_of_lt}
use native.Mathlib.Omega.{arith}
use borrow.Author.Tests.{ltb-true, ltb-false, lt-ltb, le-ltb, eqb-true, eqb-false}
use lib.Dec.{ltb, eqb}
use lib.IntN.{ℤ, pos, ◌+ℤ◌, +ℤ_assoc, +ℤ_comm, +ℤ_idl}
use lib.ListN.{length, get_or}
use Rattle.readings.proofs.Peaks.{peak}
use Rattle.dots_activation.specs.Whole.{sum_ℤ}
use Rattle.dots_rearranged.specs.Orders.{times, Rearrangement, from}

-- ---- an entry is below n, or n, or over it

data Where (p n : ℕ) : Type 0 where
  under : ltb p n ≡ true → ltb p (suc n) ≡ true → eqb p n ≡ false → Where p n
  there : p ≡ n → ltb p n ≡ false → ltb p (suc n) ≡ true → eqb p n ≡ true → Where p n
  over : ltb p n ≡ false → ltb p (suc n) ≡ false → eqb p n ≡ false → Where p n

stands : (p n : ℕ) → Where p n
stands p n = by (ltb p n) refl (eqb p n) refl
  where
    by : (s : Bool) → ltb p n ≡ s → (t : Bool) → eqb p n ≡ t → Where p n
    by true a true b = absurd (omega (arith, ltb-true p n a, eqb-true p n b))
    by true a false b = under a (lt-ltb p (suc n) (omega (arith, ltb-true p n a))) b
    by false a true b = there (eqb-true p n b) a (lt-ltb p (suc n) (omega (arith, eqb-true p n b))) b
    by false a false b = over a (le-ltb p (suc n) (omega (arith, ltb-false p n a, eqb-false p n b))) b

-- ---- what is gathered of f: at the places below n, and of those entries of a list that are below n

-- an addition of which the order is of no account, and what adds nothing
pub record Orderless {A : Type 0} (plus : A → A → A) (none : A) : Type 0 where
  pub assoc : (a b c : A) → plus (plus a b) c ≡ plus a (plus b c)
  pub comm : (a b : A) → plus a b ≡ plus b a
  pub idl : (a : A) → plus none a ≡ a

module _ {A : Type 0} (plus : A → A → A) (none : A) (f : ℕ → A) where
  abbrev pub gathered : ℕ → A
  gathered zero = none
  gathered (suc n) = plus (gathered n) (f n)

  abbrev picked : ℕ → List ℕ → A
  picked n [] = none
  picked n (p ∷ ps) = plus (cond (ltb p n) (f p) none) (picked n ps)

module _ {A : Type 0} {plus : A → A → A} {none : A} (law : Orderless plus none) where
  idr : (a : A) → plus a none ≡ a
  idr a = law.comm a none ∙ law.idl a

  pub gathered_same : (f g : ℕ → A) (n : ℕ) → ((i : ℕ) → i < n → f i ≡ g i) → gathered plus none f n ≡ gathered plus none g n
  gathered_same f g zero h = refl
  gathered_same f g (suc n) h = rw (gathered_same f g n (λ i q. h i (omega arith)), h n (omega arith))

  gathered_add : (f : ℕ → A) (a b : ℕ) → gathered plus none f (a + b) ≡ plus (gathered plus none f a) (gathered plus none (λ i. f (a + i)) b)
  gathered_add f a zero = rw (add-zero a) (sym (idr _))
  gathered_add f a (suc b) = rw (add-suc a b, gathered_add f a b) (law.assoc _ _ _)

  again : ℕ → A → A
  again zero z = none
  again (suc k) z = plus z (again k z)

  module _ (f : ℕ → A) where
    picked_none : (ps : List ℕ) → picked plus none f 0 ps ≡ none
    picked_none [] = refl
    picked_none (p ∷ ps) = rw (le-ltb p 0 (omega arith), picked_none ps) (law.idl none)

    picked_more : (n : ℕ) (ps : List ℕ) → picked plus none f (suc n) ps ≡ plus (picked plus none f n ps) (again (times n ps) (f n))
    unfolding again
    picked_more n [] = sym (law.idl none)
    picked_more n (p ∷ ps) = by (stands p n) (picked_more n ps)
      where
        s : A
        s = picked plus none f n ps

        t : A
        t = again (times n ps) (f n)

        by : Where p n → picked plus none f (suc n) ps ≡ plus s t → picked plus none f (suc n) (p ∷ ps) ≡ plus (picked plus none f n (p ∷ ps)) (again (times n (p ∷ ps)) (f n))
        by (under a b c) h = rw (a, b, c, h) (sym (law.assoc (f p) s t))
        by (there e a b c) h =
            rw (a, b, c, h, e)
            (sym (law.assoc (f n) s t) ∙ ap (λ x. plus x t) (law.comm (f n) s) ∙ law.assoc s (f n) t ∙ ap (λ x. plus x (plus (f n) t)) (sym (law.idl s)))
        by (over a b c) h = rw (a, b, c, h) (law.idl _ ∙ ap (λ x. plus x t) (sym (law.idl s)))

    -- a list that has each place below n once
    picked_all : (n : ℕ) (ps : List ℕ) → ((j : ℕ) → j < n → times j ps ≡ 1) → picked plus none f n ps ≡ gathered plus none f n
    unfolding again
    picked_all zero ps h = picked_none ps
    picked_all (suc n) ps h =
        picked_more n ps
        ∙ ap (λ k. plus (picked plus none f n ps) (again k (f n))) (h n (omega arith))
        ∙ ap (λ x. plus (picked plus none f n ps) x) (idr (f n))
        ∙ ap (λ x. plus x (f n)) (picked_all n ps (λ j q. h j (omega arith)))

    -- the first, and the rest
    gathered_front : (g : ℕ → A) (k : ℕ) → gathered plus none g (suc k) ≡ plus (g 0) (gathered plus none (λ i. g (suc i)) k)
    gathered_front g zero = law.comm none (g 0)
    gathered_front g (suc k) = ap (λ x. plus x (g (suc k))) (gathered_front g k) ∙ law.assoc (g 0) (gathered plus none (λ i. g (suc i)) k) (g (suc k))

    -- a list whose entries are all below n
    listed : (n : ℕ) (ps : List ℕ) → ((i : ℕ) → i < length ps → get_or ps i 0 < n) → gathered plus none (λ i. f (get_or ps i 0)) (length ps) ≡ picked plus none f n ps
    listed n [] h = refl
    listed n (p ∷ ps) h =
        gathered_front (λ i. f (get_or (p ∷ ps) i 0)) (length ps)
        ∙ ap (λ x. plus (f p) x) (listed n ps (λ i q. h (suc i) (omega arith)))
        ∙ ap (λ t. plus (cond t (f p) none) (picked plus none f n ps)) (sym (lt-ltb p n (h 0 (omega arith))))

-- ---- each entry of a rearrangement of R places is one of them: as many are below R as there are

counting : Orderless {A = ℕ} (λ a b. a + b) 0
counting = record { assoc = λ a b c. omega arith; comm = λ a b. omega arith; idl = λ a. omega arith }

below : ℕ → List ℕ → ℕ
below n ps = picked (λ a b. a + b) 0 (λ i. 1) n ps

ones : (n : ℕ) → gathered {A = ℕ} (λ a b. a + b) 0 (λ i. 1) n ≡ n
ones zero = refl
ones (suc n) = omega (arith, ones n)

below_long : (n : ℕ) (ps : List ℕ) → below n ps ≤ length ps
unfolding below
below_long n [] = omega arith
below_long n (p ∷ ps) = by (ltb p n) (below_long n ps)
  where
    by : (t : Bool) → below n ps ≤ length ps → cond t 1 0 + below n ps ≤ suc (length ps)
    by true h = omega arith
    by false h = omega arith

below_each : (n : ℕ) (ps : List ℕ) → below n ps ≡ length ps → (i : ℕ) → i < length ps → get_or ps i 0 < n
unfolding below
below_each n [] e i h = absurd (omega arith)
below_each n (p ∷ ps) e i h = by (ltb p n) refl e i h (below_each n ps)
  where
    by : (t : Bool) → ltb p n ≡ t → cond t 1 0 + below n ps ≡ suc (length ps) → (i : ℕ) → i < suc (length ps)
        → (below n ps ≡ length ps → (i : ℕ) → i < length ps → get_or ps i 0 < n) → get_or (p ∷ ps) i 0 < n
    by true a e zero h g = ltb-true p n a
    by true a e (suc i) h g = g (omega arith) i (omega arith)
    by false a e i h g = absurd (omega (arith, below_long n ps))

pub place_below : {R : ℕ} {ps : List ℕ} → Rearrangement R ps → (i : ℕ) → i < R → get_or ps i 0 < R
unfolding below
place_below {R} {ps} r i h = below_each R ps (picked_all counting (λ j. 1) R ps r.once ∙ ones R ∙ sym r.long) i (omega (arith, r.long))

-- ---- runs of R

-- the runs from run a on
pub from_shift : (R : ℕ) (orders : ℕ → List ℕ) (a i : ℕ) → 0 < R → from R orders (R * a + i) ≡ R * a + from R (λ r. orders (a + r)) i
from_shift R orders a i p = rw (mul-add-div p a i, mul-add-mod_self_left R a i, mul-add R a (i / R)) (add_assoc (R * a) (R * (i / R)) _)

-- the first run
from_first : (R : ℕ) (orders : ℕ → List ℕ) (l : ℕ) → l < R → from R orders l ≡ get_or (orders 0) l 0
from_first R orders l h = rw (div-eq_of_lt h, mod-eq_of_lt h, mul-zero R) (zero-add _)

module _ {A : Type 0} {plus : A → A → A} {none : A} (law : Orderless plus none) where
  -- over R places, in the order of a rearrangement
  pub gathered_rearranged : (f : ℕ → A) {R : ℕ} {ps : List ℕ} → Rearrangement R ps → gathered plus none (λ i. f (get_or ps i 0)) R ≡ gathered plus none f R
  gathered_rearranged f {R} {ps} r =
      ap (gathered plus none (λ i. f (get_or ps i 0))) (sym r.long)
      ∙ listed law f R ps (λ i h. place_below r i (omega (arith, r.long)))
      ∙ picked_all law f R ps r.once

  -- over k runs of R, each in an order of its own
  pub gathered_moved : (f : ℕ → A) (R k : ℕ) (orders : ℕ → List ℕ) → 0 < R → ((r : ℕ) → Rearrangement R (orders r)) → gathered plus none (λ i. f (from R orders i)) (R * k) ≡ gathered plus none f (R * k)
  gathered_moved f R zero orders p each = rw (mul-zero R)
  gathered_moved f R (suc k) orders p each =
      rw mul-suc
      (gathered_add law (λ i. f (from R orders i)) (R * k) R ∙ both (gathered_moved f R k orders p each) last ∙ sym (gathered_add law f (R * k) R))
    where
      both : {a b c d : A} → a ≡ b → c ≡ d → plus a c ≡ plus b d
      both h g = cc

      last : gathered plus none (λ l. f (from R orders (R * k + l))) R ≡ gathered plus none (λ l. f (R * k + l)) R
      last =
          gathered_same law _ _ R (λ l h. ap f (from_shift R orders k l p ∙ ap (λ n. R * k + n) (from_first R (λ r. orders (k + r)) l h)))
          ∙ gathered_rearranged (λ n. f (R * k + n)) (each (k + 0))

-- ---- sums of whole numbers, and the largest of a row of numbers

adding : Orderless (λ a b. a +ℤ b) (pos 0)
adding = record { assoc = +ℤ_assoc; comm = +ℤ_comm; idl = +ℤ_idl }

sum_is : (f : ℕ → ℤ) (n : ℕ) → sum_ℤ f n ≡ gathered (λ a b. a +ℤ b) (pos 0) f n
unfolding sum_ℤ
sum_is f zero = refl
sum_is f (suc n) = rw (sum_is f n)

pub sum_rearranged : (R : ℕ) (ps : List ℕ) → Rearrangement R ps → (f : ℕ → ℤ) → sum_ℤ (λ i. f (get_or ps i 0)) R ≡ sum_ℤ f R
sum_rearranged R ps r f = sum_is _ R ∙ gathered_rearranged adding f r ∙ sym (sum_is f R)

-- n places that are k runs of R
pub sum_moved : (f : ℕ → ℤ) (R k n : ℕ) (orders : ℕ → List ℕ) → R * k ≡ n → 0 < R → ((r : ℕ) → Rearrangement R (orders r)) → sum_ℤ (λ i. f (from R orders i)) n ≡ sum_ℤ f n
sum_moved f R k n orders e p each = rw (← e) (sum_is _ (R * k) ∙ gathered_moved adding f R k orders p each ∙ sym (sum_is f (R * k)))

larger : Orderless {A = ℕ} max 0
larger = record { assoc = λ a b c. omega arith; comm = max_comm; idl = zero-max }

peak_is : (f : ℕ → ℕ) (n : ℕ) → peak f n ≡ gathered max 0 f n
peak_is f zero = refl
peak_is f (suc n) = rw (peak_is f n)

pub peak_moved : (f : ℕ → ℕ) (R k n : ℕ) (orders : ℕ → List ℕ) → R * k ≡ n → 0 < R → ((r : ℕ) → Rearrangement R (orders r)) → peak (λ i. f (from R orders i)) n ≡ peak f n
peak_moved f R k n orders e p each = rw (← e) (peak_is _ (R * k) ∙ gathered_moved larger f R k orders p each ∙ sym (peak_is f (R * k)))
