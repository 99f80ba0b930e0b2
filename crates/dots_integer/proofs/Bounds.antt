-- How large the whole numbers are. From our quantizer every quant is within 127, the sums are right and small, the count is right, A stays within 30,723,840 in Q4_K and 63,495,936 in Q5_K, and B within 133,169,152. Assumes nothing.
use mathlib.Core.Path.{◌≡◌, refl, sym, ap, ◌∙◌, subst}
use mathlib.Core.Bool.{Bool, true, false, cond, false≢true}
use mathlib.Core.List.{List}
use Prim.Native.Nat.{ℕ, suc, ◌+◌, ◌*◌, ◌-◌, ◌/◌, ◌%◌, ◌^◌, ◌≤◌, ◌<◌}
use native.Mathlib.Nat.{mul-le-mul_right}
use native.Mathlib.Omega.{arith}
use borrow.Author.Tests.{le-ltb, ltb-true, ltb-false}
use lib.Dec.{ltb, lit≤}
use lib.IntN.{ℤ, pos, negsuc, ◌-ℤ◌}
use lib.ListN.{get_or, length}
use lib.Ieee.{Float, nan, binary32, of_bits, le, add, mul}
use mir.Syntax.{w32}
use mir.Val.{SFits}
use Rattle.memory.proofs.Filled.{length_table, get_or_table}
use Rattle.memory.proofs.Every.{every_all}
use Rattle.numbers.specs.Fields.{signed}
use Rattle.numbers.specs.Steps.{nought, truncated}
use Rattle.readings.specs.Readings.{scale_q8, inverse, held, quant_q8}
use Rattle.layouts.specs.Of32.{nibble}
use Rattle.layouts.specs.Formats.{has_minimums}
use Rattle.layouts.specs.K.{scale_byte, scale_q4k, nibble_paired, quant_q4k, quant_q5k, scale_q6k, quant_q6k, scale_k, quant_k}
use Rattle.layouts.specs.declared.format.FormatK.{FormatK}
use Rattle.layouts.specs.declared.format.FormatK.TheVariants.{Q4K, Q5K, Q6K}
use Rattle.layouts.proofs.Quants.{nibble_small}
use Rattle.k_quants.proofs.LaidOut.{Laid}
use Rattle.dots_activation.specs.Whole.{elem, eq_z, Within}
use Rattle.dots_activation.specs.declared.block.Q8Block.{Q8Block}
use Rattle.dots_activation.specs.Blocks.{quant_at, quants_of, sum_of_32, right_at, block_of, count_serves, sums_right, SmallSums}
use Rattle.dots_activation.proofs.Magnitudes.{within, pos_within, mul_within, fits_within}
use Rattle.dots_activation.proofs.Ranges.{sum_within}
use Rattle.dots_activation.proofs.Tests.{eq_z_same}
use Rattle.dots_activation.proofs.Past.{serves}
use Rattle.dots_whole.specs.Sums.{weighed_at, whole_sum}
use Rattle.dots_whole.specs.Inner.{FiveBits}

-- ---- a block of our quantizer

-- what is held within -127 and 127 is within 127
held_within : (z : ℤ) → Within 127 (held (negsuc 126) (pos 127) z)
held_within (pos n) = by (ltb 127 n) refl
  where
    by : (t : Bool) → ltb 127 n ≡ t → Within 127 (cond t (pos 127) (pos n))
    by true e = record { abs = omega arith }
    by false e = record { abs = ltb-false 127 n e }
held_within (negsuc n) = by (ltb 126 n) refl
  where
    by : (t : Bool) → ltb 126 n ≡ t → Within 127 (cond t (negsuc 126) (negsuc n))
    by true e = record { abs = omega arith }
    by false e = record { abs = omega (arith, ltb-false 126 n e) }

q8_within : (p : Float) → Within 127 (quant_q8 p)
unfolding quant_q8
q8_within p = held_within (truncated (add binary32 p (cond (le nought p) (of_bits binary32 0x3f00_0000) (of_bits binary32 0xbf00_0000))))

quant_within : (xs : List Float) (inv : Float) (i : ℕ) → Within 127 (quant_at xs inv i)
quant_within xs inv i = by (ltb i (length xs))
  where
    by : (t : Bool) → Within 127 (cond t (quant_q8 (mul binary32 (get_or xs i nan) inv)) (pos 0))
    by true = q8_within (mul binary32 (get_or xs i nan) inv)
    by false = pos_within (omega arith)

module _ (xs : List Float) where
  -- it has 256 quants and eight sums, ..
  pub block_long : (length (block_of xs).qs ≡ 256) × (length (block_of xs).bsums ≡ 8)
  unfolding block_of
  block_long = (length_table _ 256, length_table _ 8)

  pub quants_within : (i : ℕ) → i < 256 → Within 127 (elem (quants_of xs) i)
  quants_within i h = subst (Within 127) (sym (get_or_table (quant_at xs (inverse (scale_q8 xs))) 256 i (pos 0) h)) (quant_within xs (inverse (scale_q8 xs)) i)

  sum_at : (j : ℕ) → j < 8 → elem (block_of xs).bsums j ≡ sum_of_32 (quants_of xs) j
  unfolding block_of
  sum_at j h = get_or_table (sum_of_32 (quants_of xs)) 8 j (pos 0) h

  -- .. its sums are small, ..
  pub small_sums : SmallSums (block_of xs).bsums
  small_sums = record {
    near = λ j h. subst (Within 4096) (sym (sum_at j h)) (within (sum_within (λ (l : ℕ). elem (quants_of xs) (32 * j + l)) 127 32 (λ l p. quants_within (32 * j + l) (omega arith))) (lit≤ tt));
  }

  -- .. and they are the sums of their 32s
  pub sums_right_lem : sums_right (block_of xs).qs (block_of xs).bsums ≡ true
  unfolding sums_right block_of
  sums_right_lem = every_all (right_at (block_of xs).qs (block_of xs).bsums) 8 (λ j h. ap (eq_z (sum_of_32 (quants_of xs) j)) (get_or_table (sum_of_32 (quants_of xs)) 8 j (pos 0) h) ∙ eq_z_same (sum_of_32 (quants_of xs) j))

  -- past its readings there are zeros, ..
  pub quants_past : (i : ℕ) → length xs ≤ i → i < 256 → elem (block_of xs).qs i ≡ pos 0
  unfolding block_of
  quants_past i b h =
      let inv = inverse (scale_q8 xs) in
      get_or_table (quant_at xs inv) 256 i (pos 0) h ∙ ap (λ (t : Bool). cond t (quant_q8 (mul binary32 (get_or xs i nan) inv)) (pos 0)) (le-ltb i (length xs) b)

  -- .. and its count serves as many places as it has readings
  pub count_right : length xs ≤ 256 → count_serves (block_of xs).qs (block_of xs).count (length xs) ≡ true
  unfolding block_of
  count_right h = serves (quants_of xs) (length xs) h quants_past

-- a block that a call made of readings
module _ {b : Q8Block} (xs : List Float) (e : b ≡ block_of xs) where
  pub made_long : (length b.qs ≡ 256) × (length b.bsums ≡ 8)
  made_long = rw e (block_long xs)

  pub made_small : SmallSums b.bsums
  made_small = rw e (small_sums xs)

-- ---- a packed block's scales and quants

abbrev pub most_scale : FormatK → ℕ
most_scale Q4K = 63
most_scale Q5K = 63
most_scale Q6K = 128

abbrev pub most_quant : FormatK → ℕ
most_quant Q4K = 15
most_quant Q5K = 31
most_quant Q6K = 32

-- a byte as a signed number is within 128
signed_within : (b : ℕ) → b < 256 → Within 128 (signed b)
signed_within b h = by (ltb b 128) refl
  where
    by : (t : Bool) → ltb b 128 ≡ t → Within 128 (cond t (pos b) (negsuc (255 - b)))
    by true e = record { abs = omega (arith, ltb-true b 128 e) }
    by false e = record { abs = omega (arith, ltb-false b 128 e) }

-- six bits less 32 are within 32
less_within : (u : ℕ) → u < 64 → Within 32 (pos u -ℤ pos 32)
less_within u h = by (ltb u 32) refl
  where
    by : (t : Bool) → ltb u 32 ≡ t → Within 32 (cond t (negsuc (32 - suc u)) (pos (u - 32)))
    by true e = record { abs = omega (arith, ltb-true u 32 e) }
    by false e = record { abs = omega (arith, ltb-false u 32 e) }

-- the quants of a format with minimums have at most five bits
five_bits_most : (f : FormatK) → has_minimums f ≡ true → most_quant f ≤ 31
five_bits_most Q4K m = lit≤ tt
five_bits_most Q5K m = lit≤ tt
five_bits_most Q6K m = absurd (false≢true m)

module _ (w : List ℕ) (bytes : (i : ℕ) → get_or w i 0 < 256) where
  scale_q4k_lem : (j : ℕ) → scale_q4k w j ≤ 63
  unfolding scale_q4k
  scale_q4k_lem j = by (ltb j 4)
    where
      by : (t : Bool) → cond t (scale_byte w j % 64) (scale_byte w (j + 4) % 16 + 16 * (scale_byte w (j - 4) / 64)) ≤ 63
      by true = omega arith
      by false = omega (arith, bytes (4 + (j - 4)))

  paired_small : (at i : ℕ) → nibble_paired w at i ≤ 15
  paired_small at i = nibble_small (get_or w (at + (32 * (i / 64) + i % 32)) 0) (i / 32 % 2) (bytes (at + (32 * (i / 64) + i % 32)))

  quant_q4k_lem : (i : ℕ) → quant_q4k w i ≤ 15
  unfolding quant_q4k
  quant_q4k_lem = paired_small 16

  quant_q5k_lem : (i : ℕ) → quant_q5k w i ≤ 31
  unfolding quant_q5k
  quant_q5k_lem i = omega (arith, paired_small 48 i)

  scale_q6k_lem : (e : ℕ) → Within 128 (scale_q6k w e)
  unfolding scale_q6k
  scale_q6k_lem e = signed_within (get_or w (192 + e) 0) (bytes (192 + e))

  quant_q6k_lem : (i : ℕ) → Within 32 (quant_q6k w i)
  unfolding quant_q6k
  quant_q6k_lem i =
      let h = i / 128 in
      let t = i % 128 / 32 in
      let l = i % 32 in
      let low = 64 * h + (32 * (t % 2) + l) in
      let high = get_or w (128 + (32 * h + l)) 0 / 2 ^ (2 * t) % 4 in
      less_within (nibble (get_or w low 0) (t / 2) + 16 * high) (omega (arith, nibble_small (get_or w low 0) (t / 2) (bytes low)))

  -- ---- what a place weighs, and the sums

  pub scale_within : (f : FormatK) (i : ℕ) → Within (most_scale f) (scale_k f w i)
  scale_within Q4K i = pos_within (scale_q4k_lem (i / 32))
  scale_within Q5K i = pos_within (scale_q4k_lem (i / 32))
  scale_within Q6K i = scale_q6k_lem (i / 16)

  pub quant_within_k : (f : FormatK) (i : ℕ) → Within (most_quant f) (quant_k f w i)
  quant_within_k Q4K i = pos_within (quant_q4k_lem i)
  quant_within_k Q5K i = pos_within (quant_q5k_lem i)
  quant_within_k Q6K i = quant_q6k_lem i

  -- bytes that are the quants of a block with minimums
  pub five_bits : (f : FormatK) (q : List ℕ) → has_minimums f ≡ true → Laid f w q → FiveBits q
  five_bits f q m l = record { small = λ i h. omega (arith, (subst (Within (most_quant f)) (sym (l.1 i (omega arith))) (quant_within_k f i)).abs, five_bits_most f m) }

  -- activation quants within X: the sum over at most 256 places
  pub sum_within_k : (f : FormatK) (X : ℕ) (x : List ℤ) (n : ℕ) → n ≤ 256 → ((i : ℕ) → i < n → Within X (elem x i)) → Within (256 * (most_scale f * (most_quant f * X))) (whole_sum f w x n)
  sum_within_k f X x n h q =
      within (sum_within (weighed_at f w (quant_k f w) x) (most_scale f * (most_quant f * X)) n (λ i p. mul_within (scale_within f i) (mul_within (quant_within_k f i) (q i p)))) (mul-le-mul_right (most_scale f * (most_quant f * X)) h)

  -- that of a block of our quantizer
  pub ours_within : (f : FormatK) (xs : List Float) (n : ℕ) → n ≤ 256 → Within (256 * (most_scale f * (most_quant f * 127))) (whole_sum f w (quants_of xs) n)
  ours_within f xs n h = sum_within_k f 127 (quants_of xs) n h (λ i p. quants_within xs i (omega arith))

  -- From our quantizer A stays within 30,723,840 in Q4_K ..
  pub a_within : (xs : List Float) (n : ℕ) → n ≤ 256 → Within 30723840 (whole_sum Q4K w (quants_of xs) n)
  a_within = ours_within Q4K

  -- .. and within 63,495,936 in Q5_K, ..
  pub a_within_q5k : (xs : List Float) (n : ℕ) → n ≤ 256 → Within 63495936 (whole_sum Q5K w (quants_of xs) n)
  a_within_q5k = ours_within Q5K

  -- .. and B within 133,169,152.
  pub b_within : (xs : List Float) (n : ℕ) → n ≤ 256 → Within 133169152 (whole_sum Q6K w (quants_of xs) n)
  b_within = ours_within Q6K

  -- Of any signed bytes i32 holds each.
  pub held_by_i32 : (f : FormatK) (x : List ℤ) (n : ℕ) → n ≤ 256 → ((i : ℕ) → i < n → Within 128 (elem x i)) → SFits w32 (whole_sum f w x n)
  held_by_i32 Q4K x n h q = fits_within (sum_within_k Q4K 128 x n h q) tt
  held_by_i32 Q5K x n h q = fits_within (sum_within_k Q5K 128 x n h q) tt
  held_by_i32 Q6K x n h q = fits_within (sum_within_k Q6K 128 x n h q) tt
