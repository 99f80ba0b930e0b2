-- The test that two whole numbers are the same. Assumes nothing.
use mathlib.Core.Path.{◌≡◌, refl, ap}
use mathlib.Core.Bool.{Bool, true, false}
use borrow.Author.Tests.{eq-eqb, eqb-true}
use lib.IntN.{ℤ, pos, negsuc}
use Rattle.dots_activation.specs.Whole.{eq_z}

pub eq_z_same : (a : ℤ) → eq_z a a ≡ true
eq_z_same (pos a) = eq-eqb a a refl
eq_z_same (negsuc a) = eq-eqb a a refl

pub eq_z_true : (a b : ℤ) → eq_z a b ≡ true → a ≡ b
eq_z_true (pos a) (pos b) h = ap pos (eqb-true a b h)
eq_z_true (pos a) (negsuc b) h = cc
eq_z_true (negsuc a) (pos b) h = cc
eq_z_true (negsuc a) (negsuc b) h = ap negsuc (eqb-true a b h)

pub eq_z_not : (a b : ℤ) → (a ≡ b → ⊥) → eq_z a b ≡ false
eq_z_not a b h = by (eq_z a b) (λ e. h (eq_z_true a b e))
  where
    by : (t : Bool) → (t ≡ true → ⊥) → t ≡ false
    by true h = absurd (h refl)
    by false h = refl
