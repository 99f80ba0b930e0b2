-- What the steps of a sum keep: where its terms are related, and +0.0, NaN and each addition keep the relation, so do tree, lanes, chunks and rows. Assumes nothing.
use mathlib.Core.Path.{◌≡◌, refl, ap}
use mathlib.Core.List.{List, [], ◌∷◌, ◌++◌}
use Prim.Native.Nat.{ℕ, zero, suc, ◌+◌, ◌-◌, ◌*◌, ◌%◌, ◌<◌}
use native.Mathlib.Nat.{min-le_right}
use native.Mathlib.Omega.{arith}
use lib.ListN.{length, get_or, set, replicate}
use lib.Ieee.{Float, nan, binary32, add}
use Rattle.numbers.specs.Steps.{nought}
use Rattle.memory.specs.Lists.{table}
use Rattle.sums_tree.specs.Tree.{pair_up, met, tree}
use Rattle.sums_lanes.specs.Lanes.{add_to, lanes_from, lanes, chunk_sum}
use Rattle.sums.specs.Rows.{chunks_in, chunk_length, chunk_at, row_sum}

-- what a sum starts from, what stands where a list has nothing, and an addition keep the relation R
pub record KeptBySums (R : Float → Float → Type 0) : Type 0 where
  pub start : R nought nought
  pub nothing : R nan nan
  pub added : {a b x y : Float} → R a b → R x y → R (add binary32 a x) (add binary32 b y)

-- lists of one length, related place by place
data Along (R : Float → Float → Type 0) : List Float → List Float → Type 0 where
  none : Along R [] []
  more : {a b : Float} {l m : List Float} → R a b → Along R l m → Along R (a ∷ l) (b ∷ m)

module _ {R : Float → Float → Type 0} where
  along_length : {l m : List Float} → Along R l m → length l ≡ length m
  along_length none = refl
  along_length (more h r) = ap suc (along_length r)

  along_at : {l m : List Float} {y z : Float} (i : ℕ) → Along R l m → R y z → R (get_or l i y) (get_or m i z)
  along_at i none d = d
  along_at zero (more h r) d = h
  along_at (suc i) (more h r) d = along_at i r d

  along_set : {l m : List Float} {y z : Float} (i : ℕ) → Along R l m → R y z → Along R (set l i y) (set m i z)
  along_set i none d = none
  along_set zero (more h r) d = more d r
  along_set (suc i) (more h r) d = more h (along_set i r d)

  along_append : {l m s t : List Float} → Along R l m → Along R s t → Along R (l ++ s) (m ++ t)
  along_append none q = q
  along_append (more h r) q = more h (along_append r q)

  along_replicate : (a b : Float) (n : ℕ) → R a b → Along R (replicate n a) (replicate n b)
  along_replicate a b zero h = none
  along_replicate a b (suc n) h = more h (along_replicate a b n h)

  along_table : (f g : ℕ → Float) (n : ℕ) → ((i : ℕ) → i < n → R (f i) (g i)) → Along R (table f n) (table g n)
  unfolding table
  along_table f g zero h = none
  along_table f g (suc n) h = along_append (along_table f g n (λ i u. h i (omega arith))) (more (h n (omega arith)) none)

module _ {R : Float → Float → Type 0} (kept : KeptBySums R) where
  -- ---- the tree

  along_pair_up : {l m : List Float} → Along R l m → Along R (pair_up l) (pair_up m)
  unfolding pair_up
  along_pair_up none = none
  along_pair_up (more h none) = more h none
  along_pair_up (more h (more k r)) = more (kept.added h k) (along_pair_up r)

  met_kept : {l m : List Float} (k : ℕ) → Along R l m → R (met k l) (met k m)
  unfolding met
  met_kept {l = l} {m = m} zero r = along_at 0 r kept.start
  met_kept {l = l} {m = m} (suc k) r = met_kept {l = pair_up l} {m = pair_up m} k (along_pair_up r)

  tree_kept : {l m : List Float} → Along R l m → R (tree l) (tree m)
  unfolding tree
  tree_kept {l} {m} r = rw (along_length r) (met_kept (length m) r)

  -- ---- lanes, chunks and rows, over any terms that are related

  lanes_kept : (p q : ℕ → Float) {l m : List Float} (n : ℕ) → Along R l m → ((i : ℕ) → i < n → R (p i) (q i)) → Along R (lanes_from l p n) (lanes_from m q n)
  unfolding lanes_from add_to
  lanes_kept p q zero r h = r
  lanes_kept p q (suc n) r h =
      let s = lanes_kept p q n r (λ i u. h i (omega arith)) in
      along_set (n % 8) s (kept.added (along_at (n % 8) s kept.nothing) (h n (omega arith)))

  chunk_kept : (p q : ℕ → Float) (n : ℕ) → ((i : ℕ) → i < n → R (p i) (q i)) → R (chunk_sum p n) (chunk_sum q n)
  unfolding chunk_sum lanes
  chunk_kept p q n h = tree_kept (lanes_kept p q n (along_replicate nought nought 8 kept.start) h)

  pub row_kept : (p q : ℕ → Float) (n : ℕ) → ((i : ℕ) → i < n → R (p i) (q i)) → R (row_sum p n) (row_sum q n)
  unfolding row_sum chunk_at
  row_kept p q n h =
      tree_kept (along_table _ _ (chunks_in n) (λ c b. chunk_kept _ _ (chunk_length n c) (λ i u. h (8192 * c + i) (omega (arith, min-le_right 8192 (n - 8192 * c))))))
