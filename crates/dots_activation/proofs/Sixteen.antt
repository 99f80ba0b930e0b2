-- A turn l of 16 that fills 128 places in eight streams: places l, 16 + l, and so on to 112 + l. Assumes nothing.
use mathlib.Core.Path.{◌≡◌, refl, sym, ap, ◌∙◌, subst}
use mathlib.Core.List.{List, [], ◌∷◌}
use mathlib.Core.Logic.{inl, inr}
use Prim.Native.Nat.{ℕ, zero, suc, ◌+◌, ◌*◌, ◌/◌, ◌%◌, ◌^◌, ◌≤◌, ◌<◌}
use native.Mathlib.Omega.{arith}
use native.Mathlib.Decide.{dec_lt}
use lib.IntN.{ℤ, pos, ◌+ℤ◌}
use lib.ListN.{length}
use lib.Signed.{mag}
use mir.Syntax.{w16}
use mir.Val.{to_z, of_z}
use Rattle.memory.specs.Lists.{table}
use Rattle.memory.proofs.Streams.{Put, Among, stored, Done, done_none, done_more, done_all}
use Rattle.numbers.proofs.Signed.{read_is}
use Rattle.dots_activation.specs.Whole.{elem, Within}
use Rattle.dots_activation.specs.Inner.{pair_of}

-- what holds at the eight places of turn l holds at each place of that turn
at_each : (P : ℕ → Type 0) (l i : ℕ) → i < 128 → i % 16 ≡ l → P l → P (16 + l) → P (32 + l) → P (48 + l) → P (64 + l) → P (80 + l) → P (96 + l) → P (112 + l) → P i
at_each P l i u t p₀ p₁ p₂ p₃ p₄ p₅ p₆ p₇ = go (i / 16) refl
  where
    go : (j : ℕ) → j ≡ i / 16 → P i
    go zero q = subst P (omega arith) p₀
    go (suc zero) q = subst P (omega arith) p₁
    go (suc (suc zero)) q = subst P (omega arith) p₂
    go (suc (suc (suc zero))) q = subst P (omega arith) p₃
    go (suc (suc (suc (suc zero)))) q = subst P (omega arith) p₄
    go (suc (suc (suc (suc (suc zero))))) q = subst P (omega arith) p₅
    go (suc (suc (suc (suc (suc (suc zero)))))) q = subst P (omega arith) p₆
    go (suc (suc (suc (suc (suc (suc (suc zero))))))) q = subst P (omega arith) p₇
    go (suc (suc (suc (suc (suc (suc (suc (suc j)))))))) q = absurd (omega arith)

-- eight values to their places
abbrev pub eight : ℕ → (a b c d e f g h : ℤ) → List (Put ℤ)
eight l a b c d e f g h =
    record { place = l; what = a }
    ∷ record { place = 16 + l; what = b }
    ∷ record { place = 32 + l; what = c }
    ∷ record { place = 48 + l; what = d }
    ∷ record { place = 64 + l; what = e }
    ∷ record { place = 80 + l; what = f }
    ∷ record { place = 96 + l; what = g }
    ∷ record { place = 112 + l; what = h }
    ∷ []

-- ---- after l turns t stands there: f at the places passed, each within B

module _ (f : ℕ → ℤ) (B : ℕ) where
  abbrev pub Streamed : List ℤ → ℕ → Type 0
  Streamed t l = Done f (pos 0) (λ i. i % 16) 128 t l × ((i : ℕ) → i < 128 → i % 16 < l → Within B (f i)) × (l ≤ 16)

  pub streamed_none : (t : List ℤ) → length t ≡ 128 → Streamed t 0
  streamed_none t n = (done_none f (pos 0) (λ i. i % 16) 128 t n, λ i u h. absurd (omega arith), omega arith)

  -- v is what f has at place i, and within B
  abbrev pub Makes : ℕ → ℤ → Type 0
  Makes i v = (v ≡ f i) × Within B v

  near : {i : ℕ} {v : ℤ} → Makes i v → Within B (f i)
  near m = subst (Within B) m.0 m.1

  -- a turn more: each of its eight values is right
  pub streamed_more : (t : List ℤ) (l : ℕ) {a b c d e g h k : ℤ} → l < 16 → Makes l a → Makes (16 + l) b → Makes (32 + l) c → Makes (48 + l) d → Makes (64 + l) e → Makes (80 + l) g → Makes (96 + l) h → Makes (112 + l) k
      → Streamed t l → Streamed (stored t (eight l a b c d e g h k)) (l + 1)
  streamed_more t l {a} {b} {c} {d} {e} {g} {h} {k} u m₀ m₁ m₂ m₃ m₄ m₅ m₆ m₇ s =
      (done_more f (pos 0) (λ i. i % 16) 128 t l now s.0 (m₀.0, (m₁.0, (m₂.0, (m₃.0, (m₄.0, (m₅.0, (m₆.0, (m₇.0, tt)))))))) own, (λ i r q. by i r q (dec_lt (i % 16) l)), omega arith)
    where
      now : List (Put ℤ)
      now = eight l a b c d e g h k

      own : (i : ℕ) → i < 128 → i % 16 ≡ l → Among i now
      own i r q =
          at_each (λ j. Among j now) l i r q (inl refl) (inr (inl refl)) (inr (inr (inl refl))) (inr (inr (inr (inl refl)))) (inr (inr (inr (inr (inl refl))))) (inr (inr (inr (inr (inr (inl refl))))))
          (inr (inr (inr (inr (inr (inr (inl refl))))))) (inr (inr (inr (inr (inr (inr (inr (inl refl))))))))

      by : (i : ℕ) → i < 128 → i % 16 < l + 1 → Dec (i % 16 < l) → Within B (f i)
      by i r q (yes p) = s.1 i r p
      by i r q (no p) = at_each (λ j. Within B (f j)) l i r (omega arith) (near m₀) (near m₁) (near m₂) (near m₃) (near m₄) (near m₅) (near m₆) (near m₇)

  pub streamed_all : (t : List ℤ) (l : ℕ) → 16 ≤ l → Streamed t l → (t ≡ table f 128) × ((i : ℕ) → i < 128 → Within B (elem t i))
  streamed_all t l u s =
      (done_all f (pos 0) (λ i. i % 16) 128 t l s.0 (λ i h. omega arith), λ i h. let p : i % 16 < l = omega arith in subst (Within B) (sym (s.0.1 i h p)) (s.1 i h p))

-- the pair of f at places a and 16 + a, as a call gave it and as it is stored at place i
pub pair_stored : (f : ℕ → ℤ) {B : ℕ} {r : ℤ} (i a : ℕ) → mag r < 2 ^ 15 → (r ≡ f a +ℤ f (16 + a)) × Within B r → a ≡ 32 * (i / 16) + i % 16 → Makes (pair_of f) B i (to_z w16 (of_z w16 r))
pair_stored f {B} {r} i a ok e g =
    let v = read_is w16 r ok in
    let h : 16 + a ≡ 32 * (i / 16) + (16 + i % 16) = omega arith in
    (v ∙ e.0 ∙ ap (λ (k : ℕ). f k +ℤ f (16 + a)) g ∙ ap (λ (k : ℕ). f (32 * (i / 16) + i % 16) +ℤ f k) h, subst (Within B) (sym v) e.1)
