-- The sum is the dot with ones: multiplying by 1.0 is exact, since rounding keeps a value that the format holds. Assumes nothing.
use mathlib.Core.Path.{◌≡◌, refl, sym, ap, ◌∙◌}
use mathlib.Core.Bool.{Bool, true, false, ◌&&◌}
use mathlib.Core.List.{List}
use Prim.Native.Nat.{ℕ, zero, suc, ◌+◌, ◌-◌, ◌*◌, ◌%◌, ◌^◌, ◌≤◌, ◌<◌}
use native.Mathlib.Nat.{le_refl, not-le_of_lt, lt_of_lt_of_le, add_comm, mul-one, mul_assoc, zero-mul}
use native.Mathlib.Decide.{dec_le}
use native.Mathlib.Omega.{arith}
use borrow.Author.Tests.{le-ltb}
use lib.IntN.{ℤ, pos, negsuc}
use lib.Dec.{T, leb, ltb, eqb, ltb→lt, leb→le}
use lib.Pow.{pow-add, pow_pos, pow_mono, pow-lt, shl_lt}
use lib.ListN.{get_or, replicate, length-replicate, get_or-replicate}
use lib.Ieee.{Float, nan, inf, fin, Format, binary32, prec, emax, low, unlike, up, down, round, mul, fits, of_bits, of_fields, odd}
use lib.Ieee.Digits.{back}
use lib.Ieee.Fits.{reach, and_l, and_r, down_pos, round-fits}
use lib.Ieee.Exact.{HasValue, round_exact}
use Rattle.halves.proofs.SameValue.{same_value}
use Rattle.refusals.specs.Refusals.{given}
use Rattle.sums_lanes.specs.Lanes.{products, values}
use Rattle.sums.specs.Rows.{row_sum}
use Rattle.sums.specs.Says.{dot_says, sum_says}
use Rattle.sums.proofs.RowLaws.{row_cong}

-- ---- rounding keeps a value that the format holds

-- what `fits` says of a number above 0, but that m is odd
record Held (f : Format) (m : ℕ) (e : ℤ) : Type 0 where
  small : m < 2 ^ prec f
  fine : down e ≤ 2 ^ low f
  below : m * up e < 2 ^ suc (emax f) * down e

held : (f : Format) (s : Bool) (m : ℕ) (e : ℤ) → T (fits f (fin s (suc m) e)) → Held f (suc m) e
unfolding fits
held f s m e t =
    let a = eqb (suc m % 2) 1 in
    let b = ltb (suc m) (2 ^ prec f) in
    let c = leb (down e) (2 ^ low f) in
    let d = ltb (suc m * up e) (2 ^ suc (emax f) * down e) in
    let abc = and_l (a && b && c) d t in
    record {
      small = ltb→lt (suc m) (2 ^ prec f) (and_r a b (and_l (a && b) c abc));
      fine = leb→le (down e) (2 ^ low f) (and_r (a && b) c abc);
      below = ltb→lt (suc m * up e) (2 ^ suc (emax f) * down e) (and_r (a && b && c) d t);
    }

pow_le : (a b : ℕ) → 2 ^ a ≤ 2 ^ b → a ≤ b
pow_le a b h = elim (dec_le a b) [ yes u ↦ u | no u ↦ absurd (not-le_of_lt (pow-lt {i = b} {j = a} (omega arith)) h) ]

exact : (f : Format) (s : Bool) (m : ℕ) (e : ℤ) → T (fits f (fin s m e)) → HasValue (round f s (m * up e) (down e)) s (m * up e) (down e)
exact f s zero e t = round_exact f s (0 * up e) (down e) 0 0 (down_pos e) (pow_pos (prec f)) (pow_pos (low f + suc (emax f))) (simp zero-mul)
exact f s (suc m) (pos a) t =
    let k = held f s m (pos a) t in
    let l = low f in
    let split : suc m * 2 ^ (a + l) ≡ suc m * 2 ^ a * 2 ^ l = rw (pow-add 2 a l) (sym (mul_assoc (suc m) (2 ^ a) (2 ^ l))) in
    let b : suc m * 2 ^ a < 2 ^ suc (emax f) = rw (mul-one (2 ^ suc (emax f))) at k.below in
    let c : suc m * 2 ^ (a + l) < 2 ^ (l + suc (emax f)) = rw (split, add_comm l (suc (emax f))) (shl_lt {a = suc m * 2 ^ a} (suc (emax f)) l b) in
    round_exact f s (suc m * 2 ^ a) 1 (suc m) (a + l) (omega arith) k.small c (sym split ∙ sym (mul-one (suc m * 2 ^ (a + l))))
exact f s (suc m) (negsuc a) t =
    let k = held f s m (negsuc a) t in
    let l = low f in
    let j = l - suc a in
    let split : suc m * 1 * 2 ^ l ≡ suc m * 2 ^ j * 2 ^ suc a =
    rw (mul-one (suc m), mul_assoc (suc m) (2 ^ j) (2 ^ suc a), ← pow-add 2 j (suc a), back l (suc a) (pow_le (suc a) l k.fine)) in
    let c : suc m * 2 ^ j < 2 ^ (l + suc (emax f)) = lt_of_lt_of_le (shl_lt {a = suc m} (prec f) j k.small) (pow_mono {i = prec f + j} {j = l + suc (emax f)} (omega (arith, reach f))) in
    round_exact f s (suc m * 1) (2 ^ suc a) (suc m) j (pow_pos (suc a)) k.small c split

pub round_keeps : (f : Format) (s : Bool) (m : ℕ) (e : ℤ) → T (fits f (fin s m e)) → round f s (m * up e) (down e) ≡ fin s m e
round_keeps f s m e t =
    let n = m * up e in
    let d = down e in
    same_value f (round f s n d) (fin s m e) s n d n d (round-fits f s n d) t (down_pos e) (down_pos e) (exact f s m e t) (refl, refl) refl

-- ---- 1.0

abbrev pub one : Float
one = of_bits binary32 0x3f80_0000

unlike_plus : (s : Bool) → unlike s false ≡ s
unlike_plus true = refl
unlike_plus false = refl

pub mul_one_keeps : (x : Float) → T (fits binary32 x) → mul binary32 x one ≡ x
unfolding mul of_bits of_fields odd
mul_one_keeps nan t = refl
mul_one_keeps (inf s) t = ap inf (unlike_plus s)
mul_one_keeps (fin s m e) t = rw (unlike_plus s, mul-one (m * up e), mul-one (down e)) (round_keeps binary32 s m e t)

-- ---- the sum is the dot with ones

module _ (x : List Float) (n : ℕ) (held_by : (i : ℕ) → i < n → T (fits binary32 (get_or x i nan))) where
  pub sum_by_ones : row_sum (values x) n ≡ row_sum (products x (replicate n one)) n
  sum_by_ones = row_cong _ _ n (λ i u. rw (get_or-replicate n i one nan u) (sym (mul_one_keeps (get_or x i nan) (held_by i u))))

  -- `canonical_sum_pub` says what `canonical_dot_pub` says of n ones
  pub says_by_ones : sum_says x n ≡ dot_says x (replicate n one) n
  unfolding sum_says dot_says given
  says_by_ones = simp (length-replicate, le-ltb n n (le_refl n), sum_by_ones)
