-- Rearrangements: a list that is written out is known as one by computing, one run may be moved alone, and two channels may be put together. Assumes nothing.
use mathlib.Core.Path.{◌≡◌, refl, ◌∙◌}
use mathlib.Core.Bool.{Bool, true, false, cond}
use mathlib.Core.List.{List}
use Prim.Native.Nat.{ℕ, ◌+◌, ◌*◌, ◌/◌, ◌%◌, ◌<◌}
use native.Mathlib.Nat.{div-add-mod', mod-lt, mul-add-div, mul-add-mod_self_left, div-eq_of_lt, mod-eq_of_lt, add-zero}
use native.Mathlib.Omega.{arith}
use borrow.Author.Tests.{eq-eqb, ne_eqb, eqb-true}
use lib.Dec.{eqb}
use lib.ListN.{length, get_or}
use Rattle.memory.specs.Lists.{table, every}
use Rattle.memory.proofs.Filled.{get_or_table}
use Rattle.memory.proofs.Every.{every_not}
use Rattle.layouts.specs.declared.format.FormatK.{FormatK}
use Rattle.layouts.specs.declared.format.FormatK.TheVariants.{Q4K, Q5K, Q6K}
use Rattle.dots_rearranged.specs.Orders.{times, Rearrangement, from, unmoved, alone, two_channels}
use Rattle.dots_rearranged.specs.Moved.{run, Rearrangements}

-- a test that computes
pub tested : (R : ℕ) (ps : List ℕ) → length ps ≡ R → every (λ (j : ℕ). eqb (times j ps) 1) R ≡ true → Rearrangement R ps
tested R ps e t = record { long = e; once = λ j h. by j h (eqb (times j ps) 1) refl }
  where
    by : (j : ℕ) → j < R → (b : Bool) → eqb (times j ps) 1 ≡ b → times j ps ≡ 1
    by j h true a = eqb-true (times j ps) 1 a
    by j h false a = let f = every_not (λ (k : ℕ). eqb (times k ps) 1) R j h a in cc

unmoved_is : (f : FormatK) → Rearrangement (run f) (unmoved (run f))
unfolding table every
unmoved_is Q4K = tested (run Q4K) (unmoved (run Q4K)) refl refl
unmoved_is Q5K = tested (run Q5K) (unmoved (run Q5K)) refl refl
unmoved_is Q6K = tested (run Q6K) (unmoved (run Q6K)) refl refl

channels_are : (f : FormatK) → Rearrangement (run f) (two_channels (run f))
unfolding table every
channels_are Q4K = tested (run Q4K) (two_channels (run Q4K)) refl refl
channels_are Q5K = tested (run Q5K) (two_channels (run Q5K)) refl refl
channels_are Q6K = tested (run Q6K) (two_channels (run Q6K)) refl refl

-- two channels that come reading by reading, put together in every run
pub two_channels_lem : (f : FormatK) → Rearrangements f (λ r. two_channels (run f))
two_channels_lem f r = channels_are f

-- one run by a rearrangement, and no other: a rearrangement for each run ..
pub alone_is : (f : FormatK) (r : ℕ) (ps : List ℕ) → Rearrangement (run f) ps → Rearrangements f (alone (run f) r ps)
alone_is f r ps m s = by (eqb s r)
  where
    by : (b : Bool) → Rearrangement (run f) (cond b ps (unmoved (run f)))
    by true = m
    by false = unmoved_is f

module _ (R r : ℕ) (ps : List ℕ) (p : 0 < R) where
  -- .. that moves the places of run r by ps ..
  pub alone_at : (l : ℕ) → l < R → from R (alone R r ps) (R * r + l) ≡ R * r + get_or ps l 0
  alone_at l h =
      let d : (R * r + l) / R ≡ r = mul-add-div p r l ∙ rw (div-eq_of_lt h) (add-zero r) in
      let m : (R * r + l) % R ≡ l = mul-add-mod_self_left R r l ∙ mod-eq_of_lt h in
      rw (d, m, eq-eqb r r refl)

  -- .. and keeps all others.
  pub alone_others : (i : ℕ) → (i / R ≡ r → ⊥) → from R (alone R r ps) i ≡ i
  alone_others i h = rw (ne_eqb (i / R) r h, get_or_table (λ (k : ℕ). k) R (i % R) 0 (mod-lt i p)) (omega (arith, div-add-mod' i R))
