-- What the judges' tests mean: two floats that pass are one float, and bytes that pass are the payload's first. Assumes nothing.
use mathlib.Core.Path.{◌≡◌, refl, sym, ap, ◌∙◌}
use mathlib.Core.Bool.{Bool, true, false, cond, false≢true}
use mathlib.Core.List.{List, ◌++◌}
use Prim.Native.Nat.{ℕ, ◌≤◌, ◌<◌}
use native.Mathlib.Omega.{arith}
use borrow.Author.Tests.{eq-eqb, eqb-true, le-ltb, ltb-false}
use lib.Dec.{T, ltb, eqb}
use lib.ListN.{length, take, drop, length-append, get_or-append}
use lib.Seq.{ext_get_or, get_or-take, length-take-le}
use lib.Ieee.{Float, binary32, of_bits, to_bits, fits}
use lib.Ieee.Bits.{of_bits-to_bits}
use Rattle.std.specs.List.{starts_with}
use Rattle.std.proofs.lemmas.List.{take-append-drop}
use Rattle.std.proofs.lemmas.Bool.Decides.{Decides-eqb}
use Rattle.std.proofs.lemmas.Slice.Eq.{starts_is}
use Rattle.memory.specs.Lists.{every}
use Rattle.memory.proofs.Every.{every_all, every_not}
use Rattle.replay_answers.specs.Same.{same_bits, same_byte_at, same_bytes}

-- ---- floats

pub one_float : (a b : Float) → T (fits binary32 a) → T (fits binary32 b) → same_bits a b ≡ true → a ≡ b
one_float a b fa fb h = sym (of_bits-to_bits binary32 a fa) ∙ ap (of_bits binary32) (eqb-true _ _ h) ∙ of_bits-to_bits binary32 b fb

pub float_itself : (a : Float) → same_bits a a ≡ true
float_itself a = eq-eqb (to_bits binary32 a) (to_bits binary32 a) refl

-- ---- bytes

holds_at : (p : ℕ → Bool) (k i : ℕ) → every p k ≡ true → i < k → p i ≡ true
holds_at p k i h q = by (p i) refl
  where
    by : (t : Bool) → p i ≡ t → t ≡ true
    by true e = refl
    by false e = absurd (false≢true (sym (every_not p k i q e) ∙ h))

pub first_bytes : (p bs : List ℕ) → same_bytes p bs ≡ true → take (length bs) p ≡ bs
unfolding same_bytes
first_bytes p bs h = by (ltb (length p) (length bs)) refl h
  where
    by : (t : Bool) → ltb (length p) (length bs) ≡ t → cond t false (every (same_byte_at p bs) (length bs)) ≡ true → take (length bs) p ≡ bs
    by true e g = absurd (false≢true g)
    by false e g =
        let n : length bs ≤ length p = ltb-false _ _ e in
        let l : length (take (length bs) p) ≡ length bs = length-take-le (length bs) p n in
        ext_get_or 0 _ _ l (λ i q. get_or-take (length bs) p i 0 (omega arith) ∙ eqb-true _ _ (holds_at _ _ i g (omega arith)))

pub bytes_themselves : (bs rest : List ℕ) → same_bytes (bs ++ rest) bs ≡ true
unfolding same_bytes
bytes_themselves bs rest =
    let n : length bs ≤ length (bs ++ rest) = simp length-append (omega arith) in
    rw (le-ltb _ _ n) (every_all _ _ (λ i q. eq-eqb _ _ (get_or-append bs rest 0 i q)))

-- what the library's `starts_with` says
pub begins : (p bs : List ℕ) (r : Bool) → r ≡ starts_with eqb p bs → r ≡ same_bytes p bs
begins p bs r e = by r (same_bytes p bs) refl (starts_is Decides-eqb p bs r e)
  where
    by : (r t : Bool) → same_bytes p bs ≡ t → (r ≡ true → p ≡ bs ++ drop (length bs) p) × ((rest : List ℕ) → p ≡ bs ++ rest → r ≡ true) → r ≡ t
    by true t g h = sym (bytes_themselves bs (drop (length bs) p)) ∙ ap (λ (q : List ℕ). same_bytes q bs) (sym (h.0 refl)) ∙ g
    by false false g h = refl
    by false true g h = h.1 (drop (length bs) p) (sym (take-append-drop (length bs) p) ∙ ap (λ (q : List ℕ). q ++ drop (length bs) p) (first_bytes p bs g))
