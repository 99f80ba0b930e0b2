-- Counts of open marks. Assumes nothing.
use Prim.Native.Nat.{ℕ, zero, suc, ◌+◌, ◌<◌}
use mathlib.Core.Path.{◌≡◌, ◌∙◌}
use mathlib.Core.List.{List, [], ◌∷◌, ◌++◌}
use native.Mathlib.Numerals.{add-one}
use native.Mathlib.Omega.{arith}
use lib.ListN.{length, get_or, take, set, length-take}
use lib.Seq.{take-suc, take-set-lt, get_or-take}
use Rattle.stepped_shape.specs.Layer.{is_open, open_count}

pub open_append : (a b : List ℕ) → open_count (a ++ b) ≡ open_count a + open_count b
unfolding open_count
open_append [] b = omega arith
open_append (m ∷ a) b = omega (arith, open_append a b)

-- one more mark
pub open_more : (ms : List ℕ) (i : ℕ) → i < length ms → open_count (take (i + 1) ms) ≡ open_count (take i ms) + is_open (get_or ms i 0)
unfolding open_count
open_more ms i h = rw (add-one, take-suc ms i 0 h) (omega (arith, open_append (take i ms) (get_or ms i 0 ∷ [])))

-- a mark that was open and is set: one fewer
open_set : (ms : List ℕ) (i : ℕ) → i < length ms → get_or ms i 0 ≡ 0 → open_count (set ms i 1) + 1 ≡ open_count ms
unfolding open_count
open_set [] i h z = absurd (omega arith)
open_set (m ∷ ms) zero h z = simp z (omega arith)
open_set (m ∷ ms) (suc i) h z = omega (arith, open_set ms i (omega arith) z)

pub open_set_take : (ms : List ℕ) (n i : ℕ) → i < n → i < length ms → get_or ms i 0 ≡ 0 → open_count (take n (set ms i 1)) + 1 ≡ open_count (take n ms)
open_set_take ms n i h hl z =
    rw (take-set-lt n ms i 1 h) (open_set (take n ms) i (rw length-take (omega arith)) (get_or-take n ms i 0 h ∙ z))

-- where none is open, each is done
pub none_open : (ms : List ℕ) (i : ℕ) → open_count ms ≡ 0 → i < length ms → get_or ms i 0 ≡ 0 → ⊥
none_open ms i e h z = omega (arith, open_set ms i h z)
