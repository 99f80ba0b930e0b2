-- A turn l of 32 that fills a block's 256 places in eight streams: places l, 32 + l, and so on to 224 + l. Assumes nothing.
use mathlib.Core.Path.{◌≡◌, refl}
use mathlib.Core.Logic.{inl, inr}
use Prim.Native.Nat.{ℕ, zero, suc, ◌+◌, ◌/◌, ◌%◌, ◌≤◌, ◌<◌}
use native.Mathlib.Omega.{arith}
use mathlib.Core.List.{List, [], ◌∷◌}
use lib.ListN.{length}
use Rattle.memory.specs.Lists.{table}
use Rattle.memory.proofs.Streams.{Put, Among, stored, Done, done_none, done_more, done_all}

module _ {A : Type 0} where
  -- eight values to their places
  abbrev pub eight : ℕ → (a b c d e f g h : A) → List (Put A)
  eight l a b c d e f g h =
      record { place = l; what = a }
      ∷ record { place = 32 + l; what = b }
      ∷ record { place = 64 + l; what = c }
      ∷ record { place = 96 + l; what = d }
      ∷ record { place = 128 + l; what = e }
      ∷ record { place = 160 + l; what = f }
      ∷ record { place = 192 + l; what = g }
      ∷ record { place = 224 + l; what = h }
      ∷ []

  -- a place of turn l is one of them
  own_eight : (l : ℕ) (a b c d e f g h : A) (i : ℕ) → i < 256 → i % 32 ≡ l → Among i (eight l a b c d e f g h)
  own_eight l a b c d e f g h i u t = go (i / 32) refl
    where
      go : (j : ℕ) → j ≡ i / 32 → Among i (eight l a b c d e f g h)
      go zero q = inl (omega arith)
      go (suc zero) q = inr (inl (omega arith))
      go (suc (suc zero)) q = inr (inr (inl (omega arith)))
      go (suc (suc (suc zero))) q = inr (inr (inr (inl (omega arith))))
      go (suc (suc (suc (suc zero)))) q = inr (inr (inr (inr (inl (omega arith)))))
      go (suc (suc (suc (suc (suc zero))))) q = inr (inr (inr (inr (inr (inl (omega arith))))))
      go (suc (suc (suc (suc (suc (suc zero)))))) q = inr (inr (inr (inr (inr (inr (inl (omega arith)))))))
      go (suc (suc (suc (suc (suc (suc (suc zero))))))) q = inr (inr (inr (inr (inr (inr (inr (inl (omega arith))))))))
      go (suc (suc (suc (suc (suc (suc (suc (suc j)))))))) q = absurd (omega arith)

  -- ---- after l turns q stands there

  abbrev pub Streamed : (ℕ → A) → A → List A → ℕ → Type 0
  Streamed f z q l = Done f z (λ i. i % 32) 256 q l × (l ≤ 32)

  pub streamed_none : (f : ℕ → A) (z : A) (q : List A) → length q ≡ 256 → Streamed f z q 0
  streamed_none f z q n = (done_none f z (λ i. i % 32) 256 q n, omega arith)

  -- a turn more: each of its eight values is right
  pub streamed_more : (f : ℕ → A) (z : A) (q : List A) (l : ℕ) (a b c d e g h k : A) → l < 32
      → a ≡ f l → b ≡ f (32 + l) → c ≡ f (64 + l) → d ≡ f (96 + l) → e ≡ f (128 + l) → g ≡ f (160 + l) → h ≡ f (192 + l) → k ≡ f (224 + l)
      → Streamed f z q l → Streamed f z (stored q (eight l a b c d e g h k)) (l + 1)
  streamed_more f z q l a b c d e g h k u p₀ p₁ p₂ p₃ p₄ p₅ p₆ p₇ s =
      (done_more f z (λ i. i % 32) 256 q l (eight l a b c d e g h k) s.0 (p₀, (p₁, (p₂, (p₃, (p₄, (p₅, (p₆, (p₇, tt)))))))) (own_eight l a b c d e g h k), omega arith)

  pub streamed_all : (f : ℕ → A) (z : A) (q : List A) (l : ℕ) → 32 ≤ l → Streamed f z q l → q ≡ table f 256
  streamed_all f z q l u s = done_all f z (λ i. i % 32) 256 q l s.0 (λ i h. omega arith)
