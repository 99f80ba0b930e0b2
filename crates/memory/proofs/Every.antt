-- A test that holds at every place, or not. Assumes nothing.
use mathlib.Core.Path.{◌≡◌, refl, sym, ap, ◌∙◌}
use mathlib.Core.Bool.{Bool, true, false, cond, false≢true}
use mathlib.Core.Logic.{⊎_elim}
use Prim.Native.Nat.{ℕ, zero, suc, ◌+◌, ◌<◌}
use native.Mathlib.Nat.{not-suc-le-zero, eq-or-lt_of_le, le_of_suc-le-suc}
use native.Mathlib.Numerals.{add-one}
use native.Mathlib.Omega.{arith}
use Rattle.memory.specs.Lists.{every}

pub every_none : (p : ℕ → Bool) → every p 0 ≡ true
unfolding every
every_none p = refl

pub every_more : (p : ℕ → Bool) (k : ℕ) → every p k ≡ true → p k ≡ true → every p (k + 1) ≡ true
unfolding every
every_more p k h g = rw (add-one, h, g)

cond_itself : (t : Bool) → cond t true false ≡ t
cond_itself true = refl
cond_itself false = refl

-- a place where it holds changes nothing
pub every_keeps : (p : ℕ → Bool) (k : ℕ) → p k ≡ true → every p (k + 1) ≡ every p k
unfolding every
every_keeps p k g = rw (add-one, g) (cond_itself (every p k))

pub every_all : (p : ℕ → Bool) (k : ℕ) → ((j : ℕ) → j < k → p j ≡ true) → every p k ≡ true
unfolding every
every_all p zero h = refl
every_all p (suc k) h = rw (every_all p k (λ j q. h j (omega arith)), h k (omega arith))

cond_false : (t : Bool) → cond t false false ≡ false
cond_false true = refl
cond_false false = refl

pub every_not : (p : ℕ → Bool) (k j : ℕ) → j < k → p j ≡ false → every p k ≡ false
unfolding every
every_not p zero j h e = absurd (not-suc-le-zero h)
every_not p (suc k) j h e =
    ⊎_elim
    (λ g. let e' : p k ≡ false = ap p (sym g) ∙ e in rw e' (cond_false (every p k)))
    (λ g. rw (every_not p k j g e))
    (eq-or-lt_of_le (le_of_suc-le-suc h))

-- at each of the places at which it holds at every one
pub every_at : (p : ℕ → Bool) (k j : ℕ) → every p k ≡ true → j < k → p j ≡ true
every_at p k j e h = told (p j) refl
  where
    told : (t : Bool) → p j ≡ t → p j ≡ true
    told true g = g
    told false g = absurd (false≢true (sym (every_not p k j h g) ∙ e))
