-- A part that was laid in its place: the parts before it are as they were, and the list is as long. Assumes nothing.
use mathlib.Core.Path.{◌≡◌, sym, ap, ◌∙◌, subst}
use mathlib.Core.List.{List, ◌++◌}
use Prim.Native.Nat.{ℕ, ◌+◌, ◌-◌, ◌≤◌, ◌<◌}
use native.Mathlib.Omega.{arith}
use lib.ListN.{length, take, drop, length-append, length-drop, get_or-append}
use lib.Seq.{get_or-take, length-take-le, take_at, drop_at, ext_get_or}
use Rattle.memory.specs.Lists.{part}
use Rattle.memory.proofs.Filled.{part_at}

module _ {A : Type 0} (d : A) where
  part_long : (xs : List A) (i n : ℕ) → i + n ≤ length xs → length (part xs i n) ≡ n
  part_long xs i n h = length-take-le n (drop i xs) (rw length-drop (omega arith))

  -- a part of what stands before a
  pub part_before : (xs ys : List A) (a i n : ℕ) → i + n ≤ a → a ≤ length xs → part (take a xs ++ ys) i n ≡ part xs i n
  part_before xs ys a i n h k =
      let front : length (take a xs) ≡ a = length-take-le a xs k in
      let room : i + n ≤ length (take a xs ++ ys) = rw (length-append, front) (omega arith) in
      let long = part_long (take a xs ++ ys) i n room in
      let short : i + n ≤ length xs = omega arith in
      ext_get_or d (part (take a xs ++ ys) i n) (part xs i n) (long ∙ sym (part_long xs i n short)) (λ j l.
      let b : j < n = subst (λ (z : ℕ). j < z) long l in
      let c : i + j < length (take a xs) = rw front (omega arith) in
      let e : i + j < a = omega arith in
      part_at (take a xs ++ ys) i n j d b ∙ get_or-append (take a xs) ys d (i + j) c ∙ get_or-take a xs (i + j) d e ∙ sym (part_at xs i n j d b))

-- the part that was laid at a
pub part_laid : {A : Type 0} (xs ys zs : List A) (a k : ℕ) → a ≤ length xs → length ys ≡ k → part (take a xs ++ (ys ++ zs)) a k ≡ ys
part_laid xs ys zs a k h e = ap (take k) (drop_at (take a xs) (ys ++ zs) a (length-take-le a xs h)) ∙ take_at ys zs k e

-- a part of k places that was laid leaves the list as long as it was
pub laid_long : {A : Type 0} (xs ys : List A) (a k e : ℕ) → e ≡ a + k → e ≤ length xs → length ys ≡ k → length (take a xs ++ (ys ++ drop (e - a) (drop a xs))) ≡ length xs
laid_long xs ys a k e E h y =
    let front : length (take a xs) ≡ a = length-take-le a xs (omega arith) in
    rw (length-append, length-append, length-drop, length-drop, front, y) (omega arith)
