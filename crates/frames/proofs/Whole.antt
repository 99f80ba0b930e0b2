-- What a good length is, what a whole record is, and what bytes begin with. Assumes nothing.
use Prim.Native.Nat.{ℕ, ◌+◌, ◌-◌, ◌≤◌}
use mathlib.Core.Path.{◌≡◌, refl}
use mathlib.Core.Bool.{Bool, true, false, ◌&&◌, false≢true}
use mathlib.Core.List.{List, []}
use native.Mathlib.Omega.{arith}
use borrow.Author.Tests.{leb-true, eq-eqb, ne_eqb}
use lib.Dec.{leb, eqb}
use lib.ListN.{length, drop}
use Rattle.memory.specs.Lists.{part}
use Rattle.numbers.specs.Fields.{le16, le32}
use Rattle.frames.specs.Frame.{good_length, size_of, is_whole, ended, torn, whole, frame_of, payload_of, rest_of}

pub both : (a b : Bool) → (a && b) ≡ true → (a ≡ true) × (b ≡ true)
both true b e = (refl, e)
both false b e = absurd (false≢true e)

module _ (s : List ℕ) where
  -- ---- the length

  pub good : good_length s ≡ true → (4 ≤ length s) × ((2 ≤ le32 s 0) × (le32 s 0 ≤ 32768))
  unfolding good_length
  good e =
      let a = both _ _ e in
      let b = both _ _ a.1 in
      (leb-true _ _ a.0, (leb-true _ _ b.0, leb-true _ _ b.1))

  pub size_good : good_length s ≡ true → size_of s ≡ 4 + le32 s 0
  unfolding size_of
  size_good e = simp e

  pub size_bad : good_length s ≡ false → size_of s ≡ 4
  unfolding size_of
  size_bad e = simp e

  -- ---- the record

  pub whole_size : is_whole s ≡ true → (6 ≤ size_of s) × (size_of s ≤ length s)
  unfolding is_whole
  whole_size e =
      let a = both (good_length s) (leb (size_of s) (length s)) e in
      (omega (arith, size_good a.0, good a.0), leb-true (size_of s) (length s) a.1)

  pub frame_ended : length s ≡ 0 → frame_of s ≡ ended
  unfolding frame_of
  frame_ended e = simp (eq-eqb _ _ e)

  pub frame_torn : (length s ≡ 0 → ⊥) → is_whole s ≡ false → frame_of s ≡ torn
  unfolding frame_of
  frame_torn some e = simp (ne_eqb _ _ some, e)

  pub frame_whole : is_whole s ≡ true → frame_of s ≡ whole (le16 s 4) (part s 6 (size_of s - 6)) (drop (size_of s) s)
  unfolding frame_of
  frame_whole e =
      let w = whole_size e in
      let some : length s ≡ 0 → ⊥ = λ z. omega arith in
      simp (ne_eqb _ _ some, e)

  -- no whole record has no payload, and nothing behind it
  pub frame_none : is_whole s ≡ false → (payload_of (frame_of s) ≡ []) × (rest_of (frame_of s) ≡ [])
  unfolding frame_of
  frame_none e = go (eqb (length s) 0) refl
    where
      go : (b : Bool) → eqb (length s) 0 ≡ b → (payload_of (frame_of s) ≡ []) × (rest_of (frame_of s) ≡ [])
      go true z = (simp z, simp z)
      go false z = (simp (z, e), simp (z, e))
