-- An end of readings in eight lanes, each over every eighth reading. Assumes nothing.
use mathlib.Core.Path.{◌≡◌, refl, sym, ap, ◌∙◌}
use mathlib.Core.Bool.{Bool, true, false}
use mathlib.Core.List.{List}
use Prim.Native.Nat.{ℕ, suc, ◌+◌, ◌-◌, ◌*◌, ◌/◌, ◌%◌, ◌≤◌, ◌<◌, max}
use native.Mathlib.Nat.{zero-max}
use native.Mathlib.Omega.{arith}
use borrow.Author.Tests.{eqb-true, eqb-false}
use lib.Dec.{T, eqb, lit<}
use lib.ListN.{length, get_or, set, take, drop, replicate, get_or-replicate, length-set, length-take, length-drop}
use lib.Seq.{get_or-set_same, get_or-set_other, get_or-take, get_or-drop}
use lib.Ieee.{Float, nan, binary32, fits}
use Rattle.numbers.specs.Steps.{nought}
use Rattle.readings.specs.Inner.{further, furthest, end_of, furthest_of_8}
use Rattle.readings.proofs.Peaks.{peak, peak_same, peak_add, peak_halves, lanes_peak}
use Rattle.readings.proofs.Sides.{units_to, units_to_at, Far, nowhere, taken, further_far, same_far, furthest_far, end_far}

-- how many of the first k places fall to lane l
abbrev pub turns : ℕ → ℕ → ℕ
turns k l = (k + 7 - l) / 8

-- each lane is, on the side s, the furthest of its places among the first k readings
pub record Lanes (s : Bool) (x lanes : List Float) (k : ℕ) : Type 0 where
  pub eight : length lanes ≡ 8
  pub at : (l : ℕ) → l < 8 → Far s (get_or lanes l nan) (peak (λ q. units_to_at s x (8 * q + l)) (turns k l))

pub lanes_none : (s : Bool) (x : List Float) → Lanes s x (replicate 8 nought) 0
lanes_none s x = record { eight = refl; at = λ l h. let t : turns 0 l ≡ 0 = omega arith in rw (get_or-replicate 8 l nought nan h, t) nowhere }

-- reading k falls to lane j
module _ (s : Bool) (x lanes : List Float) (k j : ℕ) (J : j ≡ k % 8) (held : T (fits binary32 (get_or x k nan))) where
  abbrev next : Float
  next = further s (get_or lanes j nan) (get_or x k nan)

  pub lanes_more : Lanes s x lanes k → Lanes s x (set lanes j next) (k + 1)
  lanes_more p = record { eight = simp length-set p.eight; at = λ l h. by l h (eqb l j) refl }
    where
      by : (l : ℕ) → l < 8 → (t : Bool) → eqb l j ≡ t → Far s (get_or (set lanes j next) l nan) (peak (λ q. units_to_at s x (8 * q + l)) (turns (k + 1) l))
      by l h true e =
          let same : l ≡ j = eqb-true l j e in
          let before : turns k j ≡ k / 8 = omega arith in
          let after : turns (k + 1) j ≡ suc (k / 8) = omega arith in
          let place : 8 * (k / 8) + j ≡ k = omega arith in
          let inside : j < length lanes = omega arith in
          rw (same, after, get_or-set_same lanes j next nan inside, place) (rw before at (taken s (get_or x k nan) held (p.at j (omega arith))))
      by l h false e =
          let other : l ≡ j → ⊥ = eqb-false l j e in
          let still : turns (k + 1) l ≡ turns k l = omega arith in
          rw (get_or-set_other lanes j l next nan other, still) (p.at l h)

-- the tree, call by call
pub tree_is : (s : Bool) (h : List Float) {a b c d e f g : Float} → a ≡ further s (get_or h 0 nan) (get_or h 4 nan) → b ≡ further s (get_or h 2 nan) (get_or h 6 nan) → c ≡ further s a b
    → d ≡ further s (get_or h 1 nan) (get_or h 5 nan) → e ≡ further s (get_or h 3 nan) (get_or h 7 nan) → f ≡ further s d e → g ≡ further s c f → g ≡ furthest_of_8 s h
unfolding furthest_of_8
tree_is s h p q r t u v w = w ∙ rw (r, v, p, q, t, u)

-- the lanes, met
lanes_all : (s : Bool) (x lanes : List Float) (t : ℕ) → Lanes s x lanes (8 * t) → Far s (furthest_of_8 s lanes) (peak (units_to_at s x) (8 * t))
unfolding furthest_of_8
lanes_all s x lanes t p = rw (← lanes_peak (units_to_at s x) t) (rw in_order at (further_far (further_far (pair 0 (lit< tt)) (pair 2 (lit< tt))) (further_far (pair 1 (lit< tt)) (pair 3 (lit< tt)))))
  where
    lane : ℕ → ℕ
    lane l = peak (λ q. units_to_at s x (8 * q + l)) t

    lane_is : (l : ℕ) → l < 8 → Far s (get_or lanes l nan) (lane l)
    lane_is l h = let e : turns (8 * t) l ≡ t = omega arith in rw e at (p.at l h)

    pair : (i : ℕ) → i < 4 → Far s (further s (get_or lanes i nan) (get_or lanes (i + 4) nan)) (max (lane i) (lane (i + 4)))
    pair i h = further_far (lane_is i (omega arith)) (lane_is (i + 4) (omega arith))

    twice : ℕ → ℕ
    twice i = max (lane i) (lane (4 + i))

    in_order : max (max (twice 0) (twice 2)) (max (twice 1) (twice 3)) ≡ peak lane 8
    in_order = sym (zero-max _) ∙ peak_halves (λ i. max (twice i) (twice (2 + i))) 1 ∙ peak_halves twice 2 ∙ peak_halves lane 4

-- the readings from place a on
abbrev rest : List Float → ℕ → List Float
rest x a = take (length x - a) (drop a x)

-- the lanes of the first a readings, and then the others one after the other
pub joined : (s : Bool) (x lanes : List Float) (a : ℕ) → a % 8 ≡ 0 → a ≤ length x → ((i : ℕ) → T (fits binary32 (get_or x i nan))) → Lanes s x lanes a
    → furthest s (furthest_of_8 s lanes) (rest x a) (length (rest x a)) ≡ end_of s x
joined s x lanes a whole h held p =
    let t : 8 * (a / 8) ≡ a = omega arith in
    let n : a + (length x - a) ≡ length x = omega arith in
    let f = units_to_at s x in
    let both : max (peak f a) (peak (λ i. f (a + i)) (length x - a)) ≡ peak f (length x) = sym (peak_add f a (length x - a)) ∙ ap (peak f) n in
    let front : Far s (furthest_of_8 s lanes) (peak f a) = rw t at (lanes_all s x lanes (a / 8) (rw t p)) in
    let others : peak (units_to_at s (rest x a)) (length x - a) ≡ peak (λ i. f (a + i)) (length x - a) = peak_same (units_to_at s (rest x a)) (λ i. f (a + i)) (length x - a) (λ i l. ap (units_to s) (place i l)) in
    rw len (same_far (rw (others, both) at (furthest_far s (rest x a) (length x - a) (λ i l. rw (place i l) (held (a + i))) front)) (end_far s x held))
  where
    len : length (rest x a) ≡ length x - a
    len = simp (length-take, length-drop) (omega arith)

    place : (i : ℕ) → i < length x - a → get_or (rest x a) i nan ≡ get_or x (a + i) nan
    place i l = get_or-take (length x - a) (drop a x) i nan l ∙ get_or-drop a x i nan
