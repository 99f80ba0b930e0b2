-- Laws of the lanes, over any terms p. Assumes nothing.
use mathlib.Core.Path.{◌≡◌, refl, sym, ap, ◌∙◌}
use mathlib.Core.List.{List}
use Prim.Native.Nat.{ℕ, zero, suc, ◌+◌, ◌%◌, ◌≤◌, ◌<◌}
use native.Mathlib.Nat.{add-zero, add-suc}
use native.Mathlib.Numerals.{add-one}
use native.Mathlib.Omega.{arith}
use lib.ListN.{length, get_or, set, length-set}
use lib.Ieee.{Float, nan, add, binary32}
use Rattle.memory.specs.Lists.{part}
use Rattle.memory.proofs.Filled.{part_at}
use Rattle.sums_lanes.specs.Lanes.{add_to, lanes_from, products, values}

pub lanes_none : (l : List Float) (p : ℕ → Float) → l ≡ lanes_from l p 0
unfolding lanes_from
lanes_none l p = refl

-- one more term: what a turn of a loop stores, q being the lanes before it
pub lanes_turn : (l : List Float) (p : ℕ → Float) (i j : ℕ) (q : List Float) → i % 8 ≡ j → q ≡ lanes_from l p i
    → set q j (add binary32 (get_or q j nan) (p i)) ≡ lanes_from l p (i + 1)
unfolding lanes_from add_to
lanes_turn l p i j q h e = rw (add-one i, h, e)

-- lanes depend on the terms below n alone
pub lanes_cong : (l : List Float) (p q : ℕ → Float) (n : ℕ) → ((i : ℕ) → i < n → p i ≡ q i) → lanes_from l p n ≡ lanes_from l q n
unfolding lanes_from
lanes_cong l p q zero h = refl
lanes_cong l p q (suc n) h = rw (lanes_cong l p q n (λ i k. h i (omega arith)), h n (omega arith))

-- Lanes grow by blocks: the terms after the first m, m a multiple of 8, are added to the lanes of the first m as they would be to lanes from the start.
pub lanes_add : (l : List Float) (p : ℕ → Float) (m n : ℕ) → m % 8 ≡ 0 → lanes_from (lanes_from l p m) (λ i. p (m + i)) n ≡ lanes_from l p (m + n)
unfolding lanes_from
lanes_add l p m zero h = ap (lanes_from l p) (sym (add-zero m))
lanes_add l p m (suc n) h =
    let e : (m + n) % 8 ≡ n % 8 = omega arith in
    rw (lanes_add l p m n h, add-suc m n, e)

-- The k terms of a block, q, are those of the whole, p, from m on.
pub lanes_block : (l out : List Float) (p q : ℕ → Float) (m k : ℕ) → m % 8 ≡ 0 → ((i : ℕ) → i < k → q i ≡ p (m + i)) → out ≡ lanes_from l p m
    → lanes_from out q k ≡ lanes_from l p (m + k)
lanes_block l out p q m k h t e = rw e (lanes_cong (lanes_from l p m) q (λ i. p (m + i)) k t ∙ lanes_add l p m k h)

-- the terms of parts are those of the wholes from the parts' start on
pub values_part : (x : List Float) (s j i : ℕ) → i < j → values (part x s j) i ≡ values x (s + i)
values_part x s j i h = part_at x s j i nan h

pub products_part : (x w : List Float) (s j k i : ℕ) → i < j → i < k → products (part x s j) (part w s k) i ≡ products x w (s + i)
products_part x w s j k i h g = rw (values_part x s j i h, values_part w s k i g)

-- ---- eight terms at most, one for each lane: after i of n the lanes are out

abbrev pub Adding : List Float → (ℕ → Float) → ℕ → List Float → ℕ → Type 0
Adding l p n out i = (i ≤ n) × (length out ≡ 8) × (out ≡ lanes_from l p i)

pub adding_start : (l : List Float) (p : ℕ → Float) (n : ℕ) → length l ≡ 8 → Adding l p n l 0
unfolding lanes_from
adding_start l p n e = (omega arith, e, refl)

pub adding_more : (l : List Float) (p : ℕ → Float) (n : ℕ) (out : List Float) (i : ℕ) → n ≤ 8 → i < n → Adding l p n out i
    → Adding l p n (set out i (add binary32 (get_or out i nan) (p i))) (i + 1)
adding_more l p n out i k h a = (omega arith, simp length-set a.1, lanes_turn l p i i out (omega arith) a.2)

pub adding_done : (l : List Float) (p : ℕ → Float) (n : ℕ) (out : List Float) (i : ℕ) → n ≤ i → Adding l p n out i → out ≡ lanes_from l p n
adding_done l p n out i h a = let e : i ≡ n = omega arith in rw e at a.2
