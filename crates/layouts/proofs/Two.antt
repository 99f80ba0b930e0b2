-- A turn k of `half` that fills two of twice as many places: neighbours, or the same place of each half. Assumes nothing.
use mathlib.Core.Path.{◌≡◌, refl, sym, ap, ◌∙◌}
use mathlib.Core.Logic.{inl, inr}
use Prim.Native.Nat.{ℕ, zero, suc, ◌+◌, ◌*◌, ◌/◌, ◌%◌, ◌≤◌, ◌<◌}
use native.Mathlib.Nat.{div-add-mod', suc-mul}
use native.Mathlib.Omega.{arith}
use mathlib.Core.List.{List, [], ◌∷◌}
use lib.ListN.{length}
use Rattle.memory.specs.Lists.{table}
use Rattle.memory.proofs.Streams.{Put, Among, stored, Done, done_none, done_more, done_all}

module _ {A : Type 0} where
  -- two values to their places
  abbrev pub two : (p : ℕ) (a : A) (q : ℕ) (b : A) → List (Put A)
  two p a q b = record { place = p; what = a } ∷ record { place = q; what = b } ∷ []

  -- places 2 k and 2 k + 1 are those of turn k
  pub own_neighbours : (k : ℕ) (a b : A) (i : ℕ) → i / 2 ≡ k → Among i (two (2 * k) a (2 * k + 1) b)
  own_neighbours k a b i e = go (i % 2) refl
    where
      go : (t : ℕ) → t ≡ i % 2 → Among i (two (2 * k) a (2 * k + 1) b)
      go zero q = inl (omega arith)
      go (suc zero) q = inr (inl (omega arith))
      go (suc (suc t)) q = absurd (omega arith)

  -- places k and k + half are those of turn k
  pub own_halves : (half k : ℕ) (a b : A) (i : ℕ) → i < half + half → i % half ≡ k → Among i (two k a (k + half) b)
  own_halves half k a b i h e = go (i / half) (sym (div-add-mod' i half) ∙ ap (λ (r : ℕ). i / half * half + r) e)
    where
      go : (t : ℕ) → i ≡ t * half + k → Among i (two k a (k + half) b)
      go zero q = inl (omega arith)
      go (suc zero) q = inr (inl (omega arith))
      go (suc (suc t)) q = absurd (omega (arith, suc-mul (suc t) half, suc-mul t half))

  -- ---- after k of the turns q stands there, where `turn` says in which a place is filled

  module _ (half : ℕ) (turn : ℕ → ℕ) (f : ℕ → A) (z : A) where
    abbrev pub Pairs : List A → ℕ → Type 0
    Pairs q k = Done f z turn (half + half) q k × (k ≤ half)

    pub pairs_none : (q : List A) → length q ≡ half + half → Pairs q 0
    pairs_none q n = (done_none f z turn (half + half) q n, omega arith)

    -- a turn more: both of its values are right, and it has no other places
    pub pairs_more : {p r : ℕ} (q : List A) (k : ℕ) (a b : A) → k < half → a ≡ f p → b ≡ f r → ((c d : A) (i : ℕ) → i < half + half → turn i ≡ k → Among i (two p c r d)) → Pairs q k → Pairs (stored q (two p a r b)) (k + 1)
    pairs_more {p} {r} q k a b h u v own d = (done_more f z turn (half + half) q k (two p a r b) d.0 (u, (v, tt)) (own a b), omega arith)

    pub pairs_all : (q : List A) (k : ℕ) → half ≤ k → ((i : ℕ) → i < half + half → turn i < half) → Pairs q k → q ≡ table f (half + half)
    pairs_all q k h few d = done_all f z turn (half + half) q k d.0 (λ i l. omega (arith, few i l))
