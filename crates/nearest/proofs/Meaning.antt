-- What `nearest` finds: no other value of the table is nearer, and of two as near it is the lower. Assumes nothing.
use mathlib.Core.Path.{◌≡◌, refl, sym, ap, ◌∙◌, subst}
use mathlib.Core.Bool.{Bool, true, false, cond, false≢true}
use mathlib.Core.Logic.{⊎_elim}
use Prim.Native.Nat.{ℕ, zero, suc, ◌+◌, ◌≤◌, ◌<◌}
use native.Mathlib.Nat.{eq-or-lt_of_le}
use native.Mathlib.Omega.{arith}
use lib.Dec.{leb, ltb}
use lib.IntN.{ℤ, pos, negsuc}
use lib.Ieee.{Float, binary32, of_bits, le, add}
use lib.Signed.{mag, ◌<ℤ◌}
use borrow.Author.Tests.{leb-true, ltb-false}
use mir.Syntax.{w8}
use mir.Val.{of_z}
use mir.ValLaws.{of_z_fits}
use Rattle.memory.specs.Lists.{every}
use Rattle.memory.proofs.Every.{every_at}
use Rattle.numbers.proofs.Signed.{read_is}
use Rattle.numbers.specs.Steps.{nought, truncated}
use Rattle.readings.specs.Readings.{held, quant_q8}
use Rattle.layouts.specs.Of32.{value_iq4_nl}
use Rattle.layouts.proofs.Rising.{rises}
use Rattle.nearest.specs.Nearest.{distance, none_nearer, first_nearest, nearest, quant_iq4_nl}
use Rattle.nearest.proofs.Searched.{searched}

-- nibble n picks the value nearest to z
pub record Nearest (z : ℤ) (n : ℕ) : Type 0 where
  pub nibble : n < 16
  pub none_nearer : (m : ℕ) → m < 16 → distance z (value_iq4_nl n) ≤ distance z (value_iq4_nl m)
  pub the_lower : (m : ℕ) → m < 16 → distance z (value_iq4_nl m) ≡ distance z (value_iq4_nl n) → (n ≡ m → ⊥) → value_iq4_nl n <ℤ value_iq4_nl m

module _ (z : ℤ) where
  -- a first that is found is one, ..
  first_is : (n k : ℕ) → first_nearest z n k < n + k → none_nearer z (first_nearest z n k) ≡ true
  unfolding first_nearest
  first_is n zero h = absurd (omega arith)
  first_is n (suc k) h = by (none_nearer z n) refl h (first_is (suc n) k)
    where
      by : {f : ℕ} (t : Bool) → none_nearer z n ≡ t → cond t n f < n + suc k → (f < suc n + k → none_nearer z f ≡ true) → none_nearer z (cond t n f) ≡ true
      by true e l later = e
      by false e l later = later (omega arith)

  -- .. and no other comes before it
  first_least : (n k m : ℕ) → n ≤ m → m < n + k → none_nearer z m ≡ true → first_nearest z n k ≤ m
  unfolding first_nearest
  first_least n zero m h l e = absurd (omega arith)
  first_least n (suc k) m h l e = by (none_nearer z n) refl (λ u. first_least (suc n) k m u (omega arith) e)
    where
      by : {f : ℕ} (t : Bool) → none_nearer z n ≡ t → (suc n ≤ m → f ≤ m) → cond t n f ≤ m
      by true g later = h
      by false g later = ⊎_elim (λ u. absurd (false≢true (sym g ∙ ap (none_nearer z) u ∙ e))) later (eq-or-lt_of_le h)

  as_near : (n m : ℕ) → distance z (value_iq4_nl m) ≡ distance z (value_iq4_nl n) → none_nearer z m ≡ none_nearer z n
  unfolding none_nearer
  as_near n m e = ap (λ (d : ℕ). every (λ i. leb d (distance z (value_iq4_nl i))) 16) e

  at_all : (n m : ℕ) → none_nearer z n ≡ true → m < 16 → distance z (value_iq4_nl n) ≤ distance z (value_iq4_nl m)
  unfolding none_nearer
  at_all n m e h = leb-true _ _ (every_at (λ i. leb (distance z (value_iq4_nl n)) (distance z (value_iq4_nl i))) 16 m e h)

  -- for every signed byte
  pub nearest_value : mag z < 128 → Nearest z (nearest z)
  nearest_value h =
      let small : nearest z < 16 = subst (λ (y : ℤ). nearest y < 16) (read_is w8 z h) (searched (of_z w8 z) (of_z_fits w8 z (record { sfits = h })).fits).1 in
      let none : none_nearer z (nearest z) ≡ true = first_is 0 16 small in
      record {
        nibble = small;
        none_nearer = λ m k. at_all (nearest z) m none k;
        the_lower = λ m k e other.
            let first : nearest z ≤ m = first_least 0 16 m (omega arith) k (as_near (nearest z) m e ∙ none) in
            rises (nearest z) m (⊎_elim (λ u. absurd (other u)) (λ u. u) (eq-or-lt_of_le first)) k;
      }

-- ---- a Q8 quant is a signed byte

held_small : (z : ℤ) → mag (held (negsuc 126) (pos 127) z) < 128
held_small (pos n) = by (ltb 127 n) refl
  where
    by : (t : Bool) → ltb 127 n ≡ t → mag (cond t (pos 127) (pos n)) < 128
    by true e = omega arith
    by false e = omega (arith, ltb-false 127 n e)
held_small (negsuc n) = by (ltb 126 n) refl
  where
    by : (t : Bool) → ltb 126 n ≡ t → mag (cond t (negsuc 126) (negsuc n)) < 128
    by true e = omega arith
    by false e = omega (arith, ltb-false 126 n e)

pub q8_byte : (p : Float) → mag (quant_q8 p) < 128
unfolding quant_q8
q8_byte p = held_small (truncated (add binary32 p (cond (le nought p) (of_bits binary32 0x3f00_0000) (of_bits binary32 0xbf00_0000))))

-- so that the nibble of a reading picks the value nearest to its integer
pub nearest_of_reading : (p : Float) → Nearest (quant_q8 p) (quant_iq4_nl p)
unfolding quant_iq4_nl
nearest_of_reading p = nearest_value (quant_q8 p) (q8_byte p)
