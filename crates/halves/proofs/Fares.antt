-- Which of four a narrowing was, by the pattern's fields; and that it was that one alone. Assumes nothing.
use mathlib.Core.Path.{◌≡◌, refl, sym, ap, ◌∙◌}
use Prim.Native.Nat.{ℕ, suc, ◌+◌, ◌-◌, ◌*◌, ◌/◌, ◌%◌, ◌^◌, ◌≤◌, ◌<◌}
use native.Mathlib.Nat.{mul_assoc, mul_right_comm, add-mul, mul-pos}
use native.Mathlib.Omega.{arith}
use mathlib.Core.Bool.{Bool, true, false, cond}
use borrow.Author.Tests.{lt-leb, leb-true, leb-false, eq-eqb, ne_eqb, eqb-true, eqb-false}
use lib.Dec.{leb, eqb}
use lib.Pow.{pow_pos, pow-add}
use Rattle.halves.specs.Binary16.{exponent, digits, exponent32, multiple32, narrowed}
use Rattle.halves.specs.How.{Worth, finite, infinite, no_number, worth16, worth32, how_from, how_narrowed, Was}
use Rattle.halves.specs.declared.how.How.{How}
use Rattle.halves.specs.declared.how.How.TheVariants.{Exact, Cut, Flushed, SentToInfinity}
use Rattle.halves.proofs.Narrowing.{narrows}

-- ---- what comes out

zero_half : (h : ℕ) → h % 32768 ≡ 0 → worth16 h ≡ finite 0
unfolding worth16
zero_half h e =
    let x : exponent h ≡ 0 = omega arith in
    let t : digits h ≡ 0 = omega arith in
    rw (x, t)

infinite_half : (h : ℕ) → h % 32768 ≡ 31744 → worth16 h ≡ infinite
unfolding worth16
infinite_half h e =
    let x : exponent h ≡ 31 = omega arith in
    let t : digits h ≡ 0 = omega arith in
    rw (x, t)

-- ---- what goes in

-- the multiple that a finite pattern stands for, which is 0 of the zeros alone
abbrev number : ℕ → ℕ
number b = cond (eqb (exponent32 b) 0) (b % 8388608) (multiple32 b)

finite_is : (b : ℕ) → (exponent32 b ≡ 255 → ⊥) → worth32 b ≡ finite (number b)
unfolding worth32
finite_is b h = rw (ne_eqb (exponent32 b) 255 h)

no_zero : (b : ℕ) → (b % 2147483648 ≡ 0 → ⊥) → number b ≡ 0 → ⊥
no_zero b h = by (eqb (exponent32 b) 0) refl
  where
    by : (z : Bool) → eqb (exponent32 b) 0 ≡ z → cond z (b % 8388608) (multiple32 b) ≡ 0 → ⊥
    by true e f = let x : exponent32 b ≡ 0 = eqb-true _ _ e in h (omega arith)
    by false e f = let p : 0 < multiple32 b = mul-pos (omega arith) (pow_pos (exponent32 b - 1)) in omega arith

-- ---- by the exponent's field

module _ (b : ℕ) (w : b < 2 ^ 32) where
  -- a field of at most 112 becomes a zero, ..
  low : exponent32 b ≤ 112 → worth16 (narrowed b) ≡ finite 0
  low h = zero_half (narrowed b) ((narrows b w).flushed h)

  -- .. one of 143 or more an infinity, ..
  high : 143 ≤ exponent32 b → worth16 (narrowed b) ≡ infinite
  high h = infinite_half (narrowed b) ((narrows b w).overflow h)

  -- .. and of a field between them ten digits are kept
  module _ (l : 112 < exponent32 b) (u : exponent32 b < 143) where
    fields : (exponent (narrowed b) ≡ suc (exponent32 b - 113)) × (digits (narrowed b) ≡ b / 8192 % 1024)
    unfolding narrowed
    fields = rw (lt-leb _ _ l, lt-leb _ _ u) (omega arith, omega arith)

    -- what is kept, in units of 2 ^ -149
    keeps : ℕ
    keeps = (1024 + b / 8192 % 1024) * 2 ^ (exponent32 b - 113) * 2 ^ 125

    half_is : worth16 (narrowed b) ≡ finite keeps
    unfolding worth16 keeps
    half_is = rw (fields.0, fields.1, ne_eqb (suc (exponent32 b - 113)) 31 (λ e. omega arith))

    number_is : worth32 b ≡ finite (multiple32 b)
    number_is = let n : exponent32 b ≡ 0 → ⊥ = λ e. omega arith in finite_is b (λ e. omega arith) ∙ rw (ne_eqb (exponent32 b) 0 n)

    -- the number is what is kept, and its last thirteen digits
    parts : multiple32 b ≡ keeps + b % 8192 * 2 ^ (exponent32 b - 1)
    unfolding keeps
    parts =
        let m = 1024 + b / 8192 % 1024 in
        let y = exponent32 b - 113 in
        let d : 8388608 + b % 8388608 ≡ m * 8192 + b % 8192 = omega arith in
        let p : 2 ^ (exponent32 b - 1) ≡ 2 ^ y * 2 ^ 112 = let e : exponent32 b - 1 ≡ y + 112 = omega arith in rw e (pow-add 2 y 112) in
        let k : m * 8192 * (2 ^ y * 2 ^ 112) ≡ m * 2 ^ y * 2 ^ 125 = rw (← mul_assoc (m * 8192) (2 ^ y) (2 ^ 112), mul_right_comm m 8192 (2 ^ y), mul_assoc (m * 2 ^ y) 8192 (2 ^ 112)) in
        rw (d, p, add-mul (m * 8192) (b % 8192) (2 ^ y * 2 ^ 112), k)

    some : 0 < keeps
    unfolding keeps
    some = mul-pos (mul-pos (omega arith) (pow_pos (exponent32 b - 113))) (pow_pos 125)

  -- so what holds of each of these holds of what a narrowing is given and makes
  each : (P : (x y : Worth) → Type 0) → ((x : Worth) → P x (finite 0)) → ((x : Worth) → P x infinite) → ((m n : ℕ) → 0 < n → n ≤ m → P (finite m) (finite n))
      → P (worth32 b) (worth16 (narrowed b))
  each P zero large kept = by (leb (exponent32 b) 112) (leb 143 (exponent32 b)) refl refl
    where
      by : (s g : Bool) → leb (exponent32 b) 112 ≡ s → leb 143 (exponent32 b) ≡ g → P (worth32 b) (worth16 (narrowed b))
      by true g e f = rw (low (leb-true _ _ e)) (zero (worth32 b))
      by false true e f = rw (high (leb-true _ _ f)) (large (worth32 b))
      by false false e f =
          let l = leb-false _ _ e in
          let u = leb-false _ _ f in
          rw (number_is l u, half_is l u) (kept (multiple32 b) (keeps l u) (some l u) (omega (arith, parts l u)))

-- ---- exactly one of the four

was_zero : (x : Worth) → Was (how_from x (finite 0)) x (finite 0)
unfolding how_from
was_zero (finite m) = by (eqb 0 m) refl
  where
    by : (z : Bool) → eqb 0 m ≡ z → Was (cond z Exact Flushed) (finite m) (finite 0)
    by true e = ap finite (sym (eqb-true _ _ e))
    by false e = (refl, λ f. eqb-false 0 m e (cc))
was_zero infinite = (refl, λ e. let z : ◌≡◌ {A = ℕ} 0 1 = cc in omega arith)
was_zero no_number = (refl, λ e. let z : ◌≡◌ {A = ℕ} 0 1 = cc in omega arith)

was_infinite : (x : Worth) → Was (how_from x infinite) x infinite
unfolding how_from
was_infinite (finite m) = (refl, λ e. let z : ◌≡◌ {A = ℕ} 0 1 = cc in omega arith)
was_infinite infinite = refl
was_infinite no_number = (refl, λ e. let z : ◌≡◌ {A = ℕ} 0 1 = cc in omega arith)

was_kept : (m n : ℕ) → 0 < n → n ≤ m → Was (how_from (finite m) (finite n)) (finite m) (finite n)
unfolding how_from
was_kept m n p h = by (eqb n m) (eqb n 0) refl refl
  where
    by : (s z : Bool) → eqb n m ≡ s → eqb n 0 ≡ z → Was (cond s Exact (cond z Flushed Cut)) (finite m) (finite n)
    by true z e f = ap finite (sym (eqb-true _ _ e))
    by false true e f = let z : n ≡ 0 = eqb-true _ _ f in absurd (omega arith)
    by false false e f = (omega (arith, eqb-false n m e), λ g. eqb-false n 0 f (cc))

-- Document 02 holds of what the narrowing is said to be ..
pub was : (b : ℕ) → b < 2 ^ 32 → Was (how_narrowed b) (worth32 b) (worth16 (narrowed b))
unfolding how_narrowed
was b w = each b w (λ x y. Was (how_from x y) x y) was_zero was_infinite was_kept

-- where the half is a number or an infinity, no two of the four hold
one_of_four : (h : How) (x y : Worth) → (y ≡ no_number → ⊥) → Was h x y → h ≡ how_from x y
unfolding how_from
one_of_four Exact (finite m) y n e = rw (← e, eq-eqb m m refl)
one_of_four Exact infinite y n e = rw (← e)
one_of_four Exact no_number y n e = absurd (n (sym e))
one_of_four Flushed (finite m) y n h = rw (h.0, ne_eqb 0 m (λ e. h.1 (ap finite (sym e))))
one_of_four Flushed infinite y n h = rw h.0
one_of_four Flushed no_number y n h = rw h.0
one_of_four SentToInfinity (finite m) y n h = rw h.0
one_of_four SentToInfinity infinite y n h = absurd (h.1 refl)
one_of_four SentToInfinity no_number y n h = rw h.0
one_of_four Cut (finite m) (finite k) n h = rw (ne_eqb k m (λ e. omega (arith, h.0)), ne_eqb k 0 (λ e. h.1 (ap finite e)))
one_of_four Cut infinite (finite k) n h = absurd h.0
one_of_four Cut no_number (finite k) n h = absurd h.0
one_of_four Cut x infinite n h = absurd h.0
one_of_four Cut x no_number n h = absurd h.0

-- no half that is made is a NaN
half_has_worth : (b : ℕ) → b < 2 ^ 32 → worth16 (narrowed b) ≡ no_number → ⊥
half_has_worth b w =
    each b w (λ x y. y ≡ no_number → ⊥)
    (λ x e. let z : ◌≡◌ {A = ℕ} 0 1 = cc in omega arith) (λ x e. let z : ◌≡◌ {A = ℕ} 0 1 = cc in omega arith) (λ m n p h e. let z : ◌≡◌ {A = ℕ} 0 1 = cc in omega arith)

-- .. and of no other of the four
pub only_one : (b : ℕ) (h : How) → b < 2 ^ 32 → Was h (worth32 b) (worth16 (narrowed b)) → h ≡ how_narrowed b
unfolding how_narrowed
only_one b h w e = one_of_four h (worth32 b) (worth16 (narrowed b)) (half_has_worth b w) e

-- ---- which one, by the fields

module _ (b : ℕ) (w : b < 2 ^ 32) where
  pub zero_is_exact : exponent32 b ≤ 112 → b % 2147483648 ≡ 0 → Exact ≡ how_narrowed b
  zero_is_exact h e =
      let x : exponent32 b ≡ 0 = omega arith in
      let t : b % 8388608 ≡ 0 = omega arith in
      let z : number b ≡ 0 = rw (x, t) in
      only_one b Exact w (finite_is b (λ f. omega arith) ∙ ap finite z ∙ sym (low b w h))

  pub small_is_flushed : exponent32 b ≤ 112 → (b % 2147483648 ≡ 0 → ⊥) → Flushed ≡ how_narrowed b
  small_is_flushed h n =
      only_one b Flushed w (low b w h, λ e. let f = sym (finite_is b (λ g. omega arith)) ∙ e in no_zero b n (cc))

  pub infinity_is_exact : b % 2147483648 ≡ 2139095040 → Exact ≡ how_narrowed b
  unfolding worth32
  infinity_is_exact e =
      let x : exponent32 b ≡ 255 = omega arith in
      let t : b % 8388608 ≡ 0 = omega arith in
      let i : worth32 b ≡ infinite = rw (x, t) in
      only_one b Exact w (i ∙ sym (high b w (omega arith)))

  pub large_is_sent : 143 ≤ exponent32 b → (b % 2147483648 ≡ 2139095040 → ⊥) → SentToInfinity ≡ how_narrowed b
  unfolding worth32
  large_is_sent h n = only_one b SentToInfinity w (high b w h, none (eqb (exponent32 b) 255) (eqb (b % 8388608) 0) refl refl)
    where
      none : (x t : Bool) → eqb (exponent32 b) 255 ≡ x → eqb (b % 8388608) 0 ≡ t → worth32 b ≡ infinite → ⊥
      none true true e f g =
          let x : exponent32 b ≡ 255 = eqb-true _ _ e in
          let t : b % 8388608 ≡ 0 = eqb-true _ _ f in
          n (omega arith)
      none true false e f g = let z : ◌≡◌ {A = ℕ} 0 1 = cc (rw (e, f) at g) in omega arith
      none false t e f g = let z : ◌≡◌ {A = ℕ} 0 1 = cc (rw e at g) in omega arith

  module _ (l : 112 < exponent32 b) (u : exponent32 b < 143) where
    pub kept_is_exact : b % 8192 ≡ 0 → Exact ≡ how_narrowed b
    kept_is_exact e =
        let z : multiple32 b ≡ keeps b w l u = parts b w l u ∙ rw e (omega arith) in
        only_one b Exact w (number_is b w l u ∙ ap finite z ∙ sym (half_is b w l u))

    pub rest_is_cut : (b % 8192 ≡ 0 → ⊥) → Cut ≡ how_narrowed b
    rest_is_cut n =
        let p : 0 < b % 8192 * 2 ^ (exponent32 b - 1) = mul-pos (omega arith) (pow_pos (exponent32 b - 1)) in
        let m : keeps b w l u < multiple32 b = omega (arith, parts b w l u) in
        only_one b Cut w (rw (number_is b w l u, half_is b w l u) (m, λ e. let z : keeps b w l u ≡ 0 = cc in omega (arith, some b w l u)))
