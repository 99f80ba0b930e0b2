-- Moved weights are bytes, as they were. Assumes nothing.
use mathlib.Core.Bool.{Bool, true, false, cond}
use mathlib.Core.List.{List}
use Prim.Native.Nat.{ℕ, ◌+◌, ◌-◌, ◌*◌, ◌/◌, ◌%◌, ◌≤◌, ◌<◌}
use native.Mathlib.Omega.{arith}
use native.Mathlib.Decide.{dec_lt}
use lib.Dec.{ltb}
use lib.ListN.{length, get_or, length-take, length-drop, get_or-eq_default}
use Rattle.memory.specs.Lists.{part}
use Rattle.memory.proofs.Filled.{get_or_table, part_at}
use Rattle.layouts.specs.Formats.{bytes_k}
use Rattle.layouts.specs.K.{nibble_paired}
use Rattle.layouts.specs.Weights.{block}
use Rattle.layouts.specs.declared.format.Format.TheVariants.{OfK}
use Rattle.layouts.specs.declared.format.FormatK.{FormatK}
use Rattle.layouts.specs.declared.format.FormatK.TheVariants.{Q4K, Q5K, Q6K}
use Rattle.layouts.proofs.Quants.{nibble_small}
use Rattle.dots_rearranged.specs.Orders.{from}
use Rattle.dots_rearranged.specs.Moved.{run, of_block, fifth_bit, low_bits, bit_pair, two_nibbles, fields, moved_byte, moved_at, moved_weights}
use Rattle.dots_rearranged.specs.Laws.{Bytes}
use Rattle.dots_rearranged.proofs.Weights.{weights_long}

-- ---- bytes that are put together

two_small : (D : ℕ) (q : ℕ → ℕ) (c : ℕ) → ((i : ℕ) → q i ≤ 15) → two_nibbles D q c < 256
two_small D q c small = omega (arith, small (2 * D * (c / D) + c % D), small (2 * D * (c / D) + (D + c % D)))

bits_small : (q : ℕ → ℕ) → ((i : ℕ) → q i < 2) → fields 2 q 8 < 256
bits_small q small = omega (arith, small 0, small 1, small 2, small 3, small 4, small 5, small 6, small 7)

pairs_small : (q : ℕ → ℕ) → ((i : ℕ) → q i < 4) → fields 4 q 4 < 256
pairs_small q small = omega (arith, small 0, small 1, small 2, small 3)

one_of : (t : Bool) {x y : ℕ} → x < 256 → y < 256 → cond t x y < 256
one_of true p q = p
one_of false p q = q

-- ---- a moved block of bytes

module _ (bs : List ℕ) (place : ℕ → ℕ) (bytes : Bytes bs) where
  paired : (at i : ℕ) → nibble_paired bs at (place i) ≤ 15
  paired at i = nibble_small (get_or bs (at + (32 * (place i / 64) + place i % 32)) 0) (place i / 32 % 2) (bytes.byte _)

  low : (i : ℕ) → low_bits bs (place i) ≤ 15
  low i = nibble_small (get_or bs (64 * (place i / 128) + (32 * (place i % 128 / 32 % 2) + place i % 32)) 0) (place i % 128 / 32 / 2) (bytes.byte _)

  byte_small : (f : FormatK) (k : ℕ) → moved_byte f place bs k < 256
  unfolding moved_byte
  byte_small Q4K k = one_of (ltb k 16) (bytes.byte k) (two_small 32 (λ i. nibble_paired bs 16 (place i)) (k - 16) (paired 16))
  byte_small Q5K k =
      one_of (ltb k 16) (bytes.byte k)
      (one_of (ltb k 48) (bits_small (λ j. fifth_bit bs (place (32 * j + (k - 16)))) (λ j. omega arith)) (two_small 32 (λ i. nibble_paired bs 48 (place i)) (k - 48) (paired 48)))
  byte_small Q6K k =
      one_of (ltb k 128) (two_small 64 (λ i. low_bits bs (place i)) k low)
      (one_of (ltb k 192) (pairs_small (λ t. bit_pair bs (place (128 * ((k - 128) / 32) + (32 * t + (k - 128) % 32)))) (λ t. omega arith)) (bytes.byte k))

-- ---- a block of bytes, and the moved weights

pad : (l : List ℕ) → ((i : ℕ) → i < length l → get_or l i 0 < 256) → Bytes l
pad l h = record { byte = λ i. by i (dec_lt i (length l)) }
  where
    by : (i : ℕ) → Dec (i < length l) → get_or l i 0 < 256
    by i (yes p) = h i p
    by i (no p) = rw (get_or-eq_default l 0 {n = i} (omega arith)) (omega arith)

block_bytes : (w : List ℕ) (a z : ℕ) → Bytes w → Bytes (part w a z)
block_bytes w a z h = pad (part w a z) (λ i l. let s = simp (length-take, length-drop) at l in rw (part_at w a z i 0 (omega arith)) (h.byte (a + i)))

pub weights_bytes : (f : FormatK) (orders : ℕ → List ℕ) (w : List ℕ) (m : ℕ) → Bytes w → Bytes (moved_weights f orders m w)
unfolding moved_weights
weights_bytes f orders w m h =
    pad (moved_weights f orders m w)
    (λ k l. rw (get_or_table (λ i. cond (ltb i (m * bytes_k f)) (moved_at f orders w i) (get_or w i 0)) (length w) k 0 (rw (weights_long f orders m w) at l))
    (one_of (ltb k (m * bytes_k f)) (byte_small (block (OfK f) w (k / bytes_k f)) (from (run f) (of_block f orders (k / bytes_k f))) (block_bytes w (k / bytes_k f * bytes_k f) (bytes_k f) h) f (k % bytes_k f)) (h.byte k)))
