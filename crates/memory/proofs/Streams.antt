-- A list of n places that a loop fills in turns, several places a turn: `turn i` is the turn that fills place i, and f i what it puts there. Assumes nothing.
use mathlib.Core.Path.{◌≡◌, refl, sym, ◌∙◌, subst}
use mathlib.Core.Logic.{◌⊎◌, inl, inr}
use Prim.Native.Nat.{ℕ, ◌+◌, ◌<◌}
use native.Mathlib.Nat.{not-suc-le-zero}
use native.Mathlib.Omega.{arith}
use mathlib.Core.Bool.{Bool, true, false}
use mathlib.Core.List.{List, [], ◌∷◌}
use borrow.Author.Tests.{eqb-true, eqb-false}
use lib.Dec.{eqb}
use lib.ListN.{length, get_or, set, length-set}
use lib.Seq.{get_or-set_same, get_or-set_other, ext_get_or}
use Rattle.memory.specs.Lists.{table}
use Rattle.memory.proofs.Filled.{length_table, get_or_table}

same? : (a b : ℕ) → (a ≡ b) ⊎ (a ≡ b → ⊥)
same? a b = go (eqb a b) refl
  where
    go : (t : Bool) → eqb a b ≡ t → (a ≡ b) ⊎ (a ≡ b → ⊥)
    go true e = inl (eqb-true a b e)
    go false e = inr (eqb-false a b e)

-- a place and what is put there
pub record Put (A : Type 0) : Type 0 where
  pub place : ℕ
  pub what : A

module _ {A : Type 0} where
  -- the list after these stores, the first one first
  abbrev pub stored : List A → List (Put A) → List A
  stored out [] = out
  stored out (p ∷ ps) = stored (set out p.place p.what) ps

  -- i is the place of one of them
  abbrev pub Among : ℕ → List (Put A) → Type 0
  Among i [] = ⊥
  Among i (p ∷ ps) = (i ≡ p.place) ⊎ Among i ps

  -- each puts what f has at its place
  abbrev pub Right : (ℕ → A) → List (Put A) → Type 0
  Right f [] = Unit
  Right f (p ∷ ps) = (p.what ≡ f p.place) × Right f ps

  pub length_stored : (out : List A) (ps : List (Put A)) → length (stored out ps) ≡ length out
  length_stored out [] = refl
  length_stored out (p ∷ ps) = length_stored (set out p.place p.what) ps ∙ length-set out p.place p.what

  module _ (f : ℕ → A) (z : A) where
    -- one store keeps a place that is right, and makes its own right
    one_kept : (out : List A) (p : Put A) (i : ℕ) → i < length out → p.what ≡ f p.place → get_or out i z ≡ f i → get_or (set out p.place p.what) i z ≡ f i
    one_kept out p i h e k =
        elim (same? i p.place) [
          | inl s ↦ rw (e, s) (get_or-set_same out p.place (f p.place) z (subst (λ (n : ℕ). n < length out) s h))
          | inr s ↦ get_or-set_other out p.place i p.what z s ∙ k
        ]

    kept : (ps : List (Put A)) (out : List A) (i : ℕ) → i < length out → Right f ps → get_or out i z ≡ f i → get_or (stored out ps) i z ≡ f i
    kept [] out i h r k = k
    kept (p ∷ ps) out i h r k =
        kept ps (set out p.place p.what) i (subst (λ (n : ℕ). i < n) (sym (length-set out p.place p.what)) h) r.1 (one_kept out p i h r.0 k)

    made : (ps : List (Put A)) (out : List A) (i : ℕ) → i < length out → Right f ps → Among i ps → get_or (stored out ps) i z ≡ f i
    made [] out i h r a = absurd a
    made (p ∷ ps) out i h r (inl s) =
        kept ps (set out p.place p.what) i (subst (λ (n : ℕ). i < n) (sym (length-set out p.place p.what)) h) r.1
        (rw (r.0, s) (get_or-set_same out p.place (f p.place) z (subst (λ (n : ℕ). n < length out) s h)))
    made (p ∷ ps) out i h r (inr a) =
        made ps (set out p.place p.what) i (subst (λ (n : ℕ). i < n) (sym (length-set out p.place p.what)) h) r.1 a

    module _ (turn : ℕ → ℕ) (n : ℕ) where
      -- the first k turns are done
      abbrev pub Done : List A → ℕ → Type 0
      Done out k = (length out ≡ n) × ((i : ℕ) → i < n → turn i < k → get_or out i z ≡ f i)

      pub done_none : (out : List A) → length out ≡ n → Done out 0
      done_none out e = (e, λ i h l. absurd (not-suc-le-zero l))

      -- one more turn: it stores what is right, at every place that is its own
      pub done_more : (out : List A) (k : ℕ) (ps : List (Put A)) → Done out k → Right f ps → ((i : ℕ) → i < n → turn i ≡ k → Among i ps) → Done (stored out ps) (k + 1)
      done_more out k ps d r own = (
        length_stored out ps ∙ d.0,
        λ i h l.
            let g : i < length out = omega (arith, d.0) in
            elim (same? (turn i) k) [
              | inl s ↦ made ps out i g r (own i h s)
              | inr s ↦ let m : turn i < k = omega arith in kept ps out i g r (d.1 i h m)
            ],
      )

      pub done_all : (out : List A) (k : ℕ) → Done out k → ((i : ℕ) → i < n → turn i < k) → out ≡ table f n
      done_all out k d all =
          ext_get_or z out (table f n) (d.0 ∙ sym (length_table f n))
          (λ i h. let l : i < n = omega (arith, d.0) in d.1 i l (all i l) ∙ sym (get_or_table f n i z l))
