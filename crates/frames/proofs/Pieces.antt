-- The next record of an input that comes in pieces. Assumes nothing.
use mathlib.Core.Path.{◌≡◌, refl}
use Prim.Native.Nat.{ℕ, ◌≤◌, ◌<◌}
use mathlib.Core.Bool.{Bool, true, false, cond}
use mathlib.Core.List.{List, ◌++◌}
use native.Mathlib.Omega.{arith}
use borrow.Author.Tests.{le-leb, lt-leb, leb-true, leb-false}
use lib.Dec.{leb}
use lib.ListN.{length, length-append, get_or-append}
use Rattle.std.proofs.Common.{Some, None}
use Rattle.numbers.specs.Fields.{le32}
use Rattle.frames.specs.Frame.{good_length, size_of}
use Rattle.frames.specs.Pieces.{next_in}
use Rattle.frames.proofs.Whole.{good, size_good, size_bad}

-- a record has 4 bytes at least, and 32,772 at most
pub size_within : (s : List ℕ) → (4 ≤ size_of s) × (size_of s ≤ 32772)
size_within s = go (good_length s) refl
  where
    go : (b : Bool) → good_length s ≡ b → (4 ≤ size_of s) × (size_of s ≤ 32772)
    go true e = (omega (arith, size_good s e, good s e), omega (arith, size_good s e, good s e))
    go false e = (omega (arith, size_bad s e), omega (arith, size_bad s e))

-- the length field decides, so that what follows a record does not change its size
pub size_front : (s more : List ℕ) → 4 ≤ length s → size_of (s ++ more) ≡ size_of s
unfolding size_of good_length
size_front s more h =
    let long : 4 ≤ length (s ++ more) = rw length-append (omega arith) in
    let field : le32 (s ++ more) 0 ≡ le32 s 0 = omega (arith, get_or-append s more 0 0 (omega arith), get_or-append s more 0 1 (omega arith), get_or-append s more 0 2 (omega arith), get_or-append s more 0 3 (omega arith)) in
    simp (le-leb _ _ long, le-leb _ _ h, field)

module _ (rest : List ℕ) where
  -- a whole record, or a length that is bad
  pub next_whole : (ended : Bool) → size_of rest ≤ length rest → next_in rest ended ≡ Some (size_of rest)
  unfolding next_in
  next_whole ended h = rw (le-leb _ _ h)

  -- all that is left of an input that has ended
  pub next_left : length rest < size_of rest → next_in rest true ≡ Some (length rest)
  unfolding next_in
  next_left h = rw (lt-leb _ _ h)

  pub next_more : length rest < size_of rest → next_in rest false ≡ None
  unfolding next_in
  next_more h = rw (lt-leb _ _ h)

  -- the next record is at the front of what has come, and has no more bytes than a record
  pub next_within : (ended : Bool) (n : ℕ) → next_in rest ended ≡ Some n → (n ≤ length rest) × (n ≤ 32772)
  unfolding next_in
  next_within ended n e = go (leb (size_of rest) (length rest)) ended refl e
    where
      go : (a b : Bool) → leb (size_of rest) (length rest) ≡ a → cond a (Some (size_of rest)) (cond b (Some (length rest)) None) ≡ Some n → (n ≤ length rest) × (n ≤ 32772)
      go true b a e = let same : size_of rest ≡ n = cc in (omega (arith, leb-true (size_of rest) (length rest) a), omega (arith, size_within rest))
      go false true a e = let same : length rest ≡ n = cc in (omega arith, omega (arith, leb-false (size_of rest) (length rest) a, size_within rest))
      go false false a e = let z : ◌≡◌ {A = ℕ} 0 1 = cc in absurd (omega arith)

  -- what more has to come for is shorter than the longest record
  pub more_short : (ended : Bool) → next_in rest ended ≡ None → length rest < 32772
  unfolding next_in
  more_short ended e = go (leb (size_of rest) (length rest)) ended refl e
    where
      go : (a b : Bool) → leb (size_of rest) (length rest) ≡ a → cond a (Some (size_of rest)) (cond b (Some (length rest)) None) ≡ None → length rest < 32772
      go true b a e = let z : ◌≡◌ {A = ℕ} 0 1 = cc in absurd (omega arith)
      go false true a e = let z : ◌≡◌ {A = ℕ} 0 1 = cc in absurd (omega arith)
      go false false a e = omega (arith, leb-false (size_of rest) (length rest) a, size_within rest)
