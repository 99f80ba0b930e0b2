-- Laws of the tree: a round by its places, a round in place, the rounds in place one after another, and the tree of eight written out. Assumes nothing.
use mathlib.Core.Path.{◌≡◌, refl, sym, ap, ◌∙◌}
use mathlib.Core.List.{List, [], ◌∷◌, ◌++◌}
use Prim.Native.Nat.{ℕ, zero, suc, ◌+◌, ◌*◌, ◌/◌, ◌≤◌, ◌<◌}
use native.Mathlib.Nat.{not-suc-le-zero}
use native.Mathlib.Omega.{arith}
use lib.ListN.{length, get_or, take, drop}
use lib.Seq.{length-take-le, take_at, get_or-take, take-length}
use lib.Ieee.{Float, nan, add, binary32}
use Rattle.numbers.specs.Steps.{nought}
use Rattle.memory.specs.Lists.{table, filled}
use Rattle.memory.proofs.Filled.{filled_behind, table_of}
use Rattle.sums_tree.specs.Tree.{pair_up, met, tree, settled, tree_leaves, combined}

-- ---- a round, by its places

pub length_pair_up : (l : List Float) → length (pair_up l) ≡ (length l + 1) / 2
unfolding pair_up
length_pair_up [] = refl
length_pair_up (a ∷ []) = refl
length_pair_up (a ∷ b ∷ r) = omega (arith, length_pair_up r)

-- neighbours are added: the sum at t is that of places 2 t and 2 t + 1
pub pair_up_at : (l : List Float) (t : ℕ) (z : Float) → 2 * t + 1 < length l → get_or (pair_up l) t z ≡ add binary32 (get_or l (2 * t) z) (get_or l (2 * t + 1) z)
unfolding pair_up
pair_up_at [] t z h = absurd (not-suc-le-zero h)
pair_up_at (a ∷ []) t z h = absurd (omega arith)
pair_up_at (a ∷ b ∷ r) zero z h = refl
pair_up_at (a ∷ b ∷ r) (suc t) z h =
    let e : 2 * suc t ≡ suc (suc (2 * t)) = omega arith in
    let f : 2 * suc t + 1 ≡ suc (suc (2 * t + 1)) = omega arith in
    rw f (rw e (pair_up_at r t z (omega arith)))

-- an odd last one moves up
pub pair_up_last : (l : List Float) (t : ℕ) (z : Float) → length l ≡ 2 * t + 1 → get_or (pair_up l) t z ≡ get_or l (2 * t) z
unfolding pair_up
pair_up_last [] t z h = absurd (omega arith)
pair_up_last (a ∷ []) zero z h = refl
pair_up_last (a ∷ []) (suc t) z h = absurd (omega arith)
pair_up_last (a ∷ b ∷ r) zero z h = absurd (omega arith)
pair_up_last (a ∷ b ∷ r) (suc t) z h =
    let e : 2 * suc t ≡ suc (suc (2 * t)) = omega arith in
    rw e (pair_up_last r t z (omega arith))

-- ---- a round in place: d is the list as the round begins, p as it is once t sums stand at its front

-- what the round over the first len places of d puts at place t
abbrev pub sum_at : List Float → ℕ → ℕ → Float
sum_at d len t = get_or (pair_up (take len d)) t nan

module _ (d : List Float) (len : ℕ) (in_d : len ≤ length d) where
  pub length_round : length (pair_up (take len d)) ≡ (len + 1) / 2
  length_round = length_pair_up (take len d) ∙ ap (λ (n : ℕ). (n + 1) / 2) (length-take-le len d in_d)

  -- a place that no sum has reached is as it was
  unreached : (t u : ℕ) (p : List Float) → t ≤ u → u < len → p ≡ filled (sum_at d len) d t → get_or p u nan ≡ get_or (take len d) u nan
  unreached t u p h b e = ap (λ (r : List Float). get_or r u nan) e ∙ filled_behind (sum_at d len) d t u nan h ∙ sym (get_or-take len d u nan b)

  pub round_pair : (t : ℕ) (p : List Float) → t < len / 2 → p ≡ filled (sum_at d len) d t
      → add binary32 (get_or p (2 * t) nan) (get_or p (2 * t + 1) nan) ≡ sum_at d len t
  round_pair t p h e =
      rw (unreached t (2 * t) p (omega arith) (omega arith) e, unreached t (2 * t + 1) p (omega arith) (omega arith) e)
      (sym (pair_up_at (take len d) t nan (omega (arith, length-take-le len d in_d))))

  pub round_odd : (t : ℕ) (p : List Float) → len ≡ 2 * t + 1 → p ≡ filled (sum_at d len) d t → get_or p (2 * t) nan ≡ sum_at d len t
  round_odd t p h e = unreached t (2 * t) p (omega arith) (omega arith) e ∙ sym (pair_up_last (take len d) t nan (length-take-le len d in_d ∙ h))

  pub round_done : (t : ℕ) (p : List Float) → t ≡ (len + 1) / 2 → p ≡ filled (sum_at d len) d t → p ≡ pair_up (take len d) ++ drop ((len + 1) / 2) d
  round_done t p h e =
      e ∙ ap (filled (sum_at d len) d) h ∙ ap (λ (s : List Float). s ++ drop ((len + 1) / 2) d) (table_of (pair_up (take len d)) ((len + 1) / 2) nan length_round)

-- ---- the rounds in place

-- So many rounds over the first len places of p give what the tree over d gives, and leave what it leaves.
pub record Underway (d p : List Float) (len : ℕ) : Type 0 where
  pub rounds : ℕ
  pub enough : len ≤ rounds
  pub meets : met rounds (take len p) ≡ tree d
  pub leaves : settled rounds len p ≡ tree_leaves d

pub underway_start : (d : List Float) → Underway d d (length d)
unfolding tree tree_leaves
underway_start d = record { rounds = length d; enough = omega arith; meets = ap (met (length d)) (take-length d); leaves = refl }

pub underway_turn : (d p q : List Float) (len : ℕ) → len ≤ length p → 1 < len → q ≡ pair_up (take len p) ++ drop ((len + 1) / 2) p
    → Underway d p len → Underway d q ((len + 1) / 2)
unfolding met settled
underway_turn d p q len h o e u = go u.rounds u.enough u.meets u.leaves
  where
    go : (k : ℕ) → len ≤ k → met k (take len p) ≡ tree d → settled k len p ≡ tree_leaves d → Underway d q ((len + 1) / 2)
    go zero b m s = absurd (omega arith)
    go (suc k) b m s =
        let f : take ((len + 1) / 2) q ≡ pair_up (take len p) =
        ap (take ((len + 1) / 2)) e ∙ take_at (pair_up (take len p)) (drop ((len + 1) / 2) p) ((len + 1) / 2) (length_round p len h) in
        record { rounds = k; enough = omega arith; meets = ap (met k) f ∙ m; leaves = ap (settled k ((len + 1) / 2)) e ∙ s }

met_one : (k : ℕ) (a : Float) → met k (a ∷ []) ≡ a
unfolding met pair_up
met_one zero a = refl
met_one (suc k) a = met_one k a

settled_one : (k : ℕ) (a : Float) (r : List Float) → settled k 1 (a ∷ r) ≡ a ∷ r
unfolding settled pair_up
settled_one zero a r = refl
settled_one (suc k) a r = settled_one k a r

-- one is left
pub underway_end : (d p : List Float) → 1 ≤ length p → Underway d p 1 → (get_or p 0 nan, p) ≡ combined d
underway_end d [] h u = absurd (omega arith)
underway_end d (a ∷ r) h u = cc (met_one u.rounds a, settled_one u.rounds a r)

-- an empty tree is +0.0
pub tree_none : (d : List Float) → length d ≡ 0 → (nought, d) ≡ combined d
unfolding tree tree_leaves met settled
tree_none [] h = refl
tree_none (a ∷ r) h = absurd (omega arith)

-- ---- the tree of eight, written out

pub tree_eight : (l : List Float) → length l ≡ 8
    → add binary32
    (add binary32 (add binary32 (get_or l 0 nan) (get_or l 1 nan)) (add binary32 (get_or l 2 nan) (get_or l 3 nan)))
    (add binary32 (add binary32 (get_or l 4 nan) (get_or l 5 nan)) (add binary32 (get_or l 6 nan) (get_or l 7 nan)))
    ≡ tree l
unfolding tree met pair_up table
tree_eight l e = ap tree (table_of l 8 nan e)
