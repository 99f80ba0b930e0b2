-- A moved block has exactly the moved quants, and the same scales, d, dmin and minimums. Assumes nothing.
use mathlib.Core.Path.{◌≡◌, refl, sym, ap, ◌∙◌}
use mathlib.Core.Bool.{true, true≢false}
use mathlib.Core.List.{List}
use Prim.Native.Nat.{ℕ, ◌+◌, ◌-◌, ◌*◌, ◌/◌, ◌%◌, ◌^◌, ◌≤◌, ◌<◌}
use native.Mathlib.Omega.{arith}
use borrow.Author.Tests.{lt-ltb, le-ltb}
use lib.Dec.{lit<}
use lib.IntN.{pos}
use lib.ListN.{get_or}
use Rattle.numbers.specs.Fields.{signed}
use Rattle.layouts.specs.Formats.{bytes_k, has_minimums}
use Rattle.layouts.specs.K.{nibble_paired, quant_q4k, quant_q5k, quant_q6k, quant_k, scale_q4k, minimum_q4k, scale_q6k}
use Rattle.layouts.specs.declared.format.FormatK.{FormatK}
use Rattle.layouts.specs.declared.format.FormatK.TheVariants.{Q4K, Q5K, Q6K}
use Rattle.dots_rearranged.specs.Moved.{fifth_bit, low_bits, bit_pair, two_nibbles, fields, moved_byte}
use Rattle.dots_rearranged.specs.Laws.{Moved}
use Rattle.dots_rearranged.proofs.Fields.{nibble_32, nibble_64, field_at, pairs_up}

-- bs' has the bytes of bs moved, by places that stay in their 32
module _ (bs bs' : List ℕ) (place : ℕ → ℕ) (stays : (i : ℕ) → i < 256 → place i / 32 ≡ i / 32) where
  -- ---- nibbles of sub-blocks in pairs, in the 128 bytes from `at` on

  paired_small : (at i : ℕ) → i < 256 → i / 32 % 2 ≡ 0 → nibble_paired bs at (place i) < 16
  paired_small at i h e =
      let s : place i / 32 % 2 ≡ 0 = ap (λ (n : ℕ). n % 2) (stays i h) ∙ e in
      rw s (omega arith)

  paired_moved : (at i : ℕ) → i < 256 → ((c : ℕ) → c < 128 → get_or bs' (at + c) 0 ≡ two_nibbles 32 (λ k. nibble_paired bs at (place k)) c) → nibble_paired bs' at i ≡ nibble_paired bs at (place i)
  paired_moved at i h bytes = nibble_32 (λ k. nibble_paired bs at (place k)) (get_or bs' (at + (32 * (i / 64) + i % 32)) 0) i h (paired_small at) (bytes (32 * (i / 64) + i % 32) (omega arith))

  -- ---- Q4_K

  module _ (moved : (k : ℕ) → k < 144 → get_or bs' k 0 ≡ moved_byte Q4K place bs k) where
    front_q4k : (k : ℕ) → k < 16 → get_or bs' k 0 ≡ get_or bs k 0
    unfolding moved_byte
    front_q4k k h = moved k (omega arith) ∙ rw (lt-ltb k 16 h)

    nibbles_q4k : (c : ℕ) → c < 128 → get_or bs' (16 + c) 0 ≡ two_nibbles 32 (λ k. nibble_paired bs 16 (place k)) c
    unfolding moved_byte
    nibbles_q4k c h =
        let e : 16 + c - 16 ≡ c = omega arith in
        moved (16 + c) (omega arith) ∙ rw (le-ltb (16 + c) 16 (omega arith), e)

    quants_q4k : (i : ℕ) → i < 256 → quant_k Q4K bs' i ≡ quant_k Q4K bs (place i)
    unfolding quant_q4k
    quants_q4k i h = ap pos (paired_moved 16 i h nibbles_q4k)

  -- ---- Q5_K

  module _ (moved : (k : ℕ) → k < 176 → get_or bs' k 0 ≡ moved_byte Q5K place bs k) where
    front_q5k : (k : ℕ) → k < 16 → get_or bs' k 0 ≡ get_or bs k 0
    unfolding moved_byte
    front_q5k k h = moved k (omega arith) ∙ rw (lt-ltb k 16 h)

    bits_q5k : (l : ℕ) → l < 32 → get_or bs' (16 + l) 0 ≡ fields 2 (λ j. fifth_bit bs (place (32 * j + l))) 8
    unfolding moved_byte
    bits_q5k l h =
        let e : 16 + l - 16 ≡ l = omega arith in
        moved (16 + l) (omega arith) ∙ rw (le-ltb (16 + l) 16 (omega arith), lt-ltb (16 + l) 48 (omega arith), e)

    nibbles_q5k : (c : ℕ) → c < 128 → get_or bs' (48 + c) 0 ≡ two_nibbles 32 (λ k. nibble_paired bs 48 (place k)) c
    unfolding moved_byte
    nibbles_q5k c h =
        let e : 48 + c - 48 ≡ c = omega arith in
        moved (48 + c) (omega arith) ∙ rw (le-ltb (48 + c) 16 (omega arith), le-ltb (48 + c) 48 (omega arith), e)

    fifth_moved : (i : ℕ) → i < 256 → fifth_bit bs' i ≡ fifth_bit bs (place i)
    fifth_moved i h =
        let p : 32 * (i / 32) + i % 32 ≡ i = omega arith in
        ap (λ (b : ℕ). b / 2 ^ (i / 32) % 2) (bits_q5k (i % 32) (omega arith))
        ∙ field_at 2 (λ j. fifth_bit bs (place (32 * j + i % 32))) 8 (i / 32) (lit< tt) (λ j. omega arith) (omega arith)
        ∙ ap (λ (n : ℕ). fifth_bit bs (place n)) p

    quants_q5k : (i : ℕ) → i < 256 → quant_k Q5K bs' i ≡ quant_k Q5K bs (place i)
    unfolding quant_q5k
    quants_q5k i h = rw (paired_moved 48 i h nibbles_q5k, fifth_moved i h)

  -- ---- Q6_K

  module _ (moved : (k : ℕ) → k < 210 → get_or bs' k 0 ≡ moved_byte Q6K place bs k) where
    nibbles_q6k : (c : ℕ) → c < 128 → get_or bs' c 0 ≡ two_nibbles 64 (λ k. low_bits bs (place k)) c
    unfolding moved_byte
    nibbles_q6k c h = moved c (omega arith) ∙ rw (lt-ltb c 128 h)

    pairs_q6k : (h l : ℕ) → h < 2 → l < 32 → get_or bs' (128 + (32 * h + l)) 0 ≡ fields 4 (λ t. bit_pair bs (place (128 * h + (32 * t + l)))) 4
    unfolding moved_byte
    pairs_q6k h l p r =
        let a : (128 + (32 * h + l) - 128) / 32 ≡ h = omega arith in
        let b : (128 + (32 * h + l) - 128) % 32 ≡ l = omega arith in
        moved (128 + (32 * h + l)) (omega arith)
        ∙ rw (le-ltb (128 + (32 * h + l)) 128 (omega arith), lt-ltb (128 + (32 * h + l)) 192 (omega arith), a, b)

    behind_q6k : (k : ℕ) → 192 ≤ k → k < 210 → get_or bs' k 0 ≡ get_or bs k 0
    unfolding moved_byte
    behind_q6k k h b = moved k b ∙ rw (le-ltb k 128 (omega arith), le-ltb k 192 h)

    -- quarters 0 and 1 of a half have the low nibbles
    low_small : (i : ℕ) → i < 256 → i / 64 % 2 ≡ 0 → low_bits bs (place i) < 16
    low_small i h e =
        let s : place i % 128 / 32 / 2 ≡ 0 = side (place i) (stays i h) in
        rw s (omega arith)
      where
        side : (n : ℕ) → n / 32 ≡ i / 32 → n % 128 / 32 / 2 ≡ 0
        side n p = omega arith

    low_moved : (i : ℕ) → i < 256 → low_bits bs' i ≡ low_bits bs (place i)
    low_moved i h = nibble_64 (λ k. low_bits bs (place k)) (get_or bs' (64 * (i / 128) + (32 * (i % 128 / 32 % 2) + i % 32)) 0) i h low_small (nibbles_q6k (64 * (i / 128) + (32 * (i % 128 / 32 % 2) + i % 32)) (omega arith))

    pair_moved : (i : ℕ) → i < 256 → bit_pair bs' i ≡ bit_pair bs (place i)
    pair_moved i h =
        let p : 128 * (i / 128) + (32 * (i % 128 / 32) + i % 32) ≡ i = omega arith in
        let q : ℕ → ℕ = λ t. bit_pair bs (place (128 * (i / 128) + (32 * t + i % 32))) in
        ap (λ (b : ℕ). b / 2 ^ (2 * (i % 128 / 32)) % 4) (pairs_q6k (i / 128) (i % 32) (omega arith) (omega arith))
        ∙ ap (λ (b : ℕ). fields 4 q 4 / b % 4) (pairs_up (i % 128 / 32))
        ∙ field_at 4 q 4 (i % 128 / 32) (lit< tt) (λ t. omega arith) (omega arith)
        ∙ ap (λ (n : ℕ). bit_pair bs (place n)) p

    quants_q6k : (i : ℕ) → i < 256 → quant_k Q6K bs' i ≡ quant_k Q6K bs (place i)
    unfolding quant_q6k
    quants_q6k i h = rw (low_moved i h, pair_moved i h)

-- ---- what stands beside the quants

module _ (bs bs' : List ℕ) (front : (k : ℕ) → k < 16 → get_or bs' k 0 ≡ get_or bs k 0) where
  same_scale : (j : ℕ) → j < 8 → scale_q4k bs' j ≡ scale_q4k bs j
  unfolding scale_q4k
  same_scale j h = rw (front (4 + j) (omega arith), front (4 + (j + 4)) (omega arith), front (4 + (j - 4)) (omega arith))

  same_minimum : (j : ℕ) → j < 8 → minimum_q4k bs' j ≡ minimum_q4k bs j
  unfolding minimum_q4k
  same_minimum j h = rw (front (4 + (j + 4)) (omega arith), front (4 + j) (omega arith))

  -- the formats with minimums
  with_front : (f : FormatK) (place : ℕ → ℕ) → has_minimums f ≡ true → ((i : ℕ) → i < 256 → quant_k f bs' i ≡ quant_k f bs (place i)) → Moved f place bs bs'
  with_front f place m quants = record {
    quants = quants;
    scales = λ e h. rw m (ap pos (same_scale e (rw m at h)));
    d_same = rw (m, front 0 (lit< tt), front 1 (lit< tt));
    dmin_same = λ h. rw (front 2 (lit< tt), front 3 (lit< tt));
    minimums = λ h. same_minimum;
  }

module _ (bs bs' : List ℕ) (place : ℕ → ℕ) (stays : (i : ℕ) → i < 256 → place i / 32 ≡ i / 32) where
  pub moved_block : (f : FormatK) → ((k : ℕ) → k < bytes_k f → get_or bs' k 0 ≡ moved_byte f place bs k) → Moved f place bs bs'
  unfolding scale_q6k
  moved_block Q4K moved = with_front bs bs' (front_q4k bs bs' place stays moved) Q4K place refl (quants_q4k bs bs' place stays moved)
  moved_block Q5K moved = with_front bs bs' (front_q5k bs bs' place stays moved) Q5K place refl (quants_q5k bs bs' place stays moved)
  moved_block Q6K moved =
      let behind = behind_q6k bs bs' place stays moved in
      record {
        quants = quants_q6k bs bs' place stays moved;
        scales = λ e h. ap signed (behind (192 + e) (omega arith) (omega arith));
        d_same = rw (behind 208 (omega arith) (omega arith), behind 209 (omega arith) (omega arith));
        dmin_same = λ h. absurd (true≢false (sym h));
        minimums = λ h. absurd (true≢false (sym h));
      }
