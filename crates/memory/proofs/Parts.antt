-- Where a part of several lies, and places that are filled part by part. Assumes nothing.
use Prim.Native.Nat.{ℕ, ◌+◌, ◌-◌, ◌*◌, ◌/◌, ◌^◌, ◌≤◌, ◌<◌, zero-le}
use mathlib.Core.Path.{◌≡◌, refl, sym, ap, subst, ◌∙◌}
use mathlib.Core.List.{List, ◌++◌}
use native.Mathlib.Omega.{arith}
use lib.Dec.{lit<}
use lib.ListN.{length, take, drop}
use Rattle.memory.specs.Lists.{table, filled, part}
use Rattle.memory.proofs.Filled.{filled_none, part_turn}
use native.Mathlib.Nat.{le_trans, le_antisymm, lt_of_le_of_lt, lt_of_lt_of_le, suc-mul, mul-le-mul_right, mul-le-mul_left, div-mul-le_self, div-le_self}

-- part b of `count` parts of k places is within the room for them all
pub within : (b k count room : ℕ) → b < count → count * k ≤ room → b * k + k ≤ room
within b k count room h r = le_trans (subst (λ (z : ℕ). z ≤ count * k) (suc-mul b k) (mul-le-mul_right k h)) r

-- a whole part of k places is within n places
pub within_whole : (b k n : ℕ) → b < n / k → b * k + k ≤ n
within_whole b k n h = within b k (n / k) n h (div-mul-le_self n k)

-- of an input of n places, in whole parts of k, each of which has v places of the room: where part b lies in each, and that there are fewer parts than places
pub part_within : (b k v n room : ℕ) → b < n / k → n / k * v ≤ room → (b * k + k ≤ n) × (b * v + v ≤ room) × (b < n)
part_within b k v n room h r = (within_whole b k n h, within b v (n / k) room h r, lt_of_lt_of_le h (div-le_self n k))

-- a count of places, of an input within the largest size, fits
pub few : (n k v : ℕ) → n ≤ 16777216 → v ≤ 256 → n / k * v < 2 ^ 64
few n k v h r = lt_of_le_of_lt (le_trans (mul-le-mul_right v (le_trans (div-le_self n k) h)) (mul-le-mul_left 16777216 r)) (lit< tt)

-- part t of several, as it is lent
pub lent_part : {A : Type 0} (xs : List A) (t size k : ℕ) → size ≡ k → take (t * size + size - t * size) (drop (t * size) xs) ≡ part xs (t * k) k
lent_part xs t size k e =
    let d : t * size + size - t * size ≡ size = omega arith in
    rw (d, e)

-- ---- `count` parts are filled in turn by f, of places that held old: part b begins at place `at b`, and after b parts out stands there

module _ {A : Type 0} (f : ℕ → A) (old : List A) (at : ℕ → ℕ) (count : ℕ) where
  abbrev pub InParts : List A → ℕ → Type 0
  InParts out b = (out ≡ filled f old (at b)) × (b ≤ count) × (length out ≡ length old)

  pub parts_none : at 0 ≡ 0 → InParts old 0
  parts_none z = (filled_none f old ∙ ap (filled f old) (sym z), zero-le, refl)

  -- part b, of k places, is lent to a call that fills it by g
  pub parts_more : (g : ℕ → A) (out ys : List A) (b k : ℕ) → b < count → at (b + 1) ≡ at b + k → at b + k ≤ length old → ys ≡ table g k → ((i : ℕ) → i < k → g i ≡ f (at b + i)) → InParts out b
      → InParts (take (at b) out ++ (ys ++ drop (at b + k - at b) (drop (at b) out))) (b + 1)
  parts_more g out ys b k h next room q x p =
      let t = part_turn f g old out ys (at b) k (at b + k) (at (b + 1)) refl next room p.0 q x in
      (t.0, omega arith, t.1)

  pub parts_done : (out : List A) (b : ℕ) → count ≤ b → InParts out b → out ≡ filled f old (at count)
  parts_done out b h p = p.0 ∙ ap (λ (c : ℕ). filled f old (at c)) (le_antisymm p.1 h)
