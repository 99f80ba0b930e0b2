-- To quantise to one order of Q4_0 and to convert is to quantise to the other. Assumes nothing.
use mathlib.Core.Path.{◌≡◌, refl, sym, ap, ◌∙◌}
use mathlib.Core.List.{List, ◌++◌}
use Prim.Native.Nat.{ℕ, zero, suc, ◌+◌, ◌-◌, ◌*◌, ◌/◌, ◌%◌, ◌≤◌, ◌<◌}
use native.Mathlib.Omega.{arith}
use mathlib.Core.Bool.{not}
use lib.Ieee.{Float, binary32, add, of_bits}
use lib.ListN.{length, get_or, take, drop}
use lib.Seq.{take_at, ext_get_or}
use borrow.Author.Tests.{ltb-false, eqb-true, not-false, le-ltb, eq-eqb}
use Rattle.refusals.specs.Said.{Said, done}
use Rattle.refusals.proofs.Laws.{given_no, given_passed, else_later, else_passed, carried_value, carried_said}
use Rattle.std.proofs.Common.{Ok}
use Rattle.memory.specs.Lists.{table, filled, part}
use Rattle.memory.proofs.Filled.{length_table, get_or_table, part_at, part_length}
use Rattle.numbers.specs.Fields.{byte_of}
use Rattle.numbers.specs.Steps.{truncated}
use Rattle.halves.specs.declared.how.Narrowed.{Narrowed}
use Rattle.readings.specs.Readings.{quant_q40}
use Rattle.readings.proofs.Held.{held_up_to}
use Rattle.layouts.specs.Formats.{bytes32}
use Rattle.layouts.proofs.Quants.{beside_low, beside_high, apart_low, apart_high}
use Rattle.quantizers.specs.Blocks.{format_of, scale_of, stored_scale, scaled_reading, quant_of, quant_byte, byte_at}
use Rattle.quantizers.specs.Lost.{counted, scale_fares, lost_in, lost_by}
use Rattle.quantizers.specs.Says.{packed_at, bytes_for, quantize_refusal, quantize_says}
use Rattle.quantizers.specs.declared.lost.Lost.{Lost}
use Rattle.quantizers.specs.declared.target.Target.{Target}
use Rattle.quantizers.specs.declared.target.Target.TheVariants.{Q40, Q40Ggml}
use Rattle.quantizers.proofs.Bytes.{after_scale, placed}
use Rattle.converters.specs.Orders.{moved_byte, converted_byte, converted_at, converted}
use Rattle.converters.specs.Says.{convert_refusal, convert_says}
use Rattle.converters.specs.declared.direction.Direction.{Direction}
use Rattle.converters.specs.declared.direction.Direction.TheVariants.{ToGgml, FromGgml}
use Rattle.converters.proofs.Moved as moved
use Rattle.converters.proofs.Orders.{nibble_read, by_halves, by_neighbours, converts}

-- the quantizer of the order that a converter reads, and that of the one that it writes
abbrev pub target_read : Direction → Target
target_read ToGgml = Q40
target_read FromGgml = Q40Ggml

abbrev pub target_written : Direction → Target
target_written ToGgml = Q40Ggml
target_written FromGgml = Q40

-- ---- a block of 32 readings

module _ (xs : List Float) where
  -- the nibble of reading j, which both orders have
  abbrev nibble : ℕ → ℕ
  nibble j = byte_of (quant_of Q40 xs j)

  nibble_small : (j : ℕ) → nibble j ≤ 15
  unfolding quant_of quant_q40
  nibble_small j =
      let u = held_up_to 15 (truncated (add binary32 (scaled_reading Q40 xs j) (of_bits binary32 0x4108_0000))) in
      rw u.is u.most

  same_nibble : (j : ℕ) → byte_of (quant_of Q40Ggml xs j) ≡ nibble j
  unfolding quant_of scaled_reading scale_of
  same_nibble j = refl

  -- the packed block
  abbrev packed_block : Target → List ℕ
  packed_block t = table (byte_at t xs) 18

  byte_at_lem : (t : Target) (k : ℕ) → k < 16 → get_or (packed_block t) (2 + k) 0 ≡ quant_byte t xs k
  byte_at_lem t k h = get_or_table (byte_at t xs) 18 (2 + k) 0 (omega arith) ∙ sym (after_scale t xs k)

  -- it has every nibble at its place
  nibble_read_lem : (d : Direction) (j : ℕ) → j < 32 → nibble_read d (packed_block (target_read d)) j ≡ nibble j
  unfolding quant_byte
  nibble_read_lem ToGgml =
      by_neighbours (λ j. nibble_read ToGgml (packed_block Q40) j ≡ nibble j)
      (λ k h.
      let low = nibble_small (2 * k) in
      let byte = byte_at_lem Q40 k h in
      (beside_low (packed_block Q40) 2 k ∙ ap (λ (b : ℕ). b % 16) byte ∙ omega (arith, low), beside_high (packed_block Q40) 2 k ∙ ap (λ (b : ℕ). b / 16) byte ∙ omega (arith, low)))
  nibble_read_lem FromGgml =
      by_halves (λ j. nibble_read FromGgml (packed_block Q40Ggml) j ≡ nibble j)
      (λ k h.
      let low = nibble_small k in
      let byte : get_or (packed_block Q40Ggml) (2 + k) 0 ≡ nibble k + 16 * nibble (k + 16) = byte_at_lem Q40Ggml k h ∙ rw (same_nibble k, same_nibble (k + 16)) in
      (apart_low (packed_block Q40Ggml) 2 k h ∙ ap (λ (b : ℕ). b % 16) byte ∙ omega (arith, low), apart_high (packed_block Q40Ggml) 2 k h ∙ ap (λ (b : ℕ). b / 16) byte ∙ omega (arith, low)))

  -- so that its moved bytes are those of the other order
  moved_is : (d : Direction) (k : ℕ) → k < 16 → moved_byte d (packed_block (target_read d)) k ≡ quant_byte (target_written d) xs k
  unfolding moved_byte quant_byte
  moved_is ToGgml k h = rw (nibble_read_lem ToGgml k (omega arith), nibble_read_lem ToGgml (k + 16) (omega arith), same_nibble k, same_nibble (k + 16))
  moved_is FromGgml k h = rw (nibble_read_lem FromGgml (2 * k) (omega arith), nibble_read_lem FromGgml (2 * k + 1) (omega arith))

  pub same_scale : (d : Direction) → stored_scale (target_read d) (scale_of (target_read d) xs) ≡ stored_scale (target_written d) (scale_of (target_written d) xs)
  unfolding scale_of stored_scale
  same_scale ToGgml = refl
  same_scale FromGgml = refl

  pub converted_block : (d : Direction) (p : ℕ) → p < 18 → converted_byte d (packed_block (target_read d)) p ≡ byte_at (target_written d) xs p
  unfolding converted_byte byte_at
  converted_block d zero h = get_or_table (byte_at (target_read d) xs) 18 0 0 h ∙ rw (same_scale d)
  converted_block d (suc zero) h = get_or_table (byte_at (target_read d) xs) 18 1 0 h ∙ rw (same_scale d)
  converted_block d (suc (suc k)) h = moved_is d k (omega arith)

-- ---- a run of blocks

-- both orders have blocks of 18 bytes
size_read : (d : Direction) → bytes32 (format_of (target_read d)) ≡ 18
size_read ToGgml = refl
size_read FromGgml = refl

size_written : (d : Direction) → bytes32 (format_of (target_written d)) ≡ 18
size_written ToGgml = refl
size_written FromGgml = refl

-- the packed blocks of all readings
abbrev pub packed : Target → List Float → List ℕ
packed t xs = table (packed_at t xs) (length xs / 32 * 18)

module _ (xs : List Float) where
  placed_at : (t : Target) (q p : ℕ) → bytes32 (format_of t) ≡ 18 → p < 18 → byte_at t (part xs (q * 32) 32) p ≡ packed_at t xs (q * 18 + p)
  placed_at t q p Z h =
      let size : q * 32 + 32 - q * 32 ≡ 32 = omega arith in
      rw size at (placed t xs q p 18 (sym Z) h)

  block_packed : (t : Target) (q : ℕ) → bytes32 (format_of t) ≡ 18 → q < length xs / 32 → part (packed t xs) (q * 18) 18 ≡ table (byte_at t (part xs (q * 32) 32)) 18
  block_packed t q Z h =
      let n : length (packed t xs) ≡ length xs / 32 * 18 = length_table (packed_at t xs) (length xs / 32 * 18) in
      let room : q * 18 + 18 ≤ length (packed t xs) = omega arith in
      let size : q * 18 + 18 - q * 18 ≡ 18 = omega arith in
      let l : length (part (packed t xs) (q * 18) 18) ≡ 18 = rw size at (part_length (packed t xs) (q * 18) 18 (q * 18 + 18) refl room) in
      ext_get_or 0 (part (packed t xs) (q * 18) 18) (table (byte_at t (part xs (q * 32) 32)) 18) (l ∙ sym (length_table (byte_at t (part xs (q * 32) 32)) 18))
      (λ p g.
      let small : p < 18 = omega (arith, l) in
      part_at (packed t xs) (q * 18) 18 p 0 small
      ∙ get_or_table (packed_at t xs) (length xs / 32 * 18) (q * 18 + p) 0 (omega arith)
      ∙ sym (placed_at t q p Z small)
      ∙ sym (get_or_table (byte_at t (part xs (q * 32) 32)) 18 p 0 small))

  -- (c) the packed blocks of one order, converted, are those of the other
  pub converted_packed : (d : Direction) → converted d (packed (target_read d) xs) ≡ packed (target_written d) xs
  converted_packed d =
      let from = packed (target_read d) xs in
      let m = length xs / 32 * 18 in
      let n : length from ≡ m = length_table (packed_at (target_read d) xs) m in
      let long : length (converted d from) ≡ m = length_table (converted_at d from) (length from) ∙ n in
      ext_get_or 0 (converted d from) (packed (target_written d) xs) (long ∙ sym (length_table (packed_at (target_written d) xs) m))
      (λ i g.
      let h : i < m = omega (arith, long) in
      let q = i / 18 in
      let p = i % 18 in
      let place : q * 18 + p ≡ i = omega arith in
      let small : p < 18 = omega arith in
      get_or_table (converted_at d from) (length from) i 0 (omega (arith, n))
      ∙ ap (converted_at d from) (sym place)
      ∙ sym (moved.placed d from q p small)
      ∙ ap (λ (b : List ℕ). converted_byte d b p) (block_packed (target_read d) q (size_read d) (omega arith))
      ∙ converted_block (part xs (q * 32) 32) d p small
      ∙ placed_at (target_written d) q p (size_written d) small
      ∙ ap (packed_at (target_written d) xs) place
      ∙ sym (get_or_table (packed_at (target_written d) xs) m i 0 h))

-- ---- as the calls say it

-- both orders' scales lose the same
same_lost : (d : Direction) (xs : List Float) (n : ℕ) → lost_in (target_read d) xs n ≡ lost_in (target_written d) xs n
unfolding lost_in scale_fares
same_lost d xs zero = refl
same_lost d xs (suc n) =
    let ys = part xs (n * 32) 32 in
    ap (λ (l : Lost). counted l (scale_fares (target_read d) ys)) (same_lost d xs n) ∙ ap (λ (s : Narrowed). counted (lost_in (target_written d) xs n) s.how) (same_scale ys d)

-- a quantizer whose checks pass packs
packs : (t : Target) (xs : List Float) (room : List ℕ) → bytes32 (format_of t) ≡ 18 → quantize_refusal t (length xs) (length room) ≡ done
    → quantize_says t xs room ≡ (Ok (lost_by t xs), packed t xs ++ drop (length xs / 32 * 18) room)
unfolding quantize_says
packs t xs room Z passed =
    carried_value _ (filled (packed_at t xs) room (bytes_for t (length xs))) room _ (else_later _ (Ok (lost_by t xs)) passed)
    ∙ ap (λ (k : ℕ). (Ok (lost_by t xs), filled (packed_at t xs) room (length xs / 32 * k))) Z

-- what its checks look at
checked : (t : Target) (n room : ℕ) → bytes32 (format_of t) ≡ 18 → quantize_refusal t n room ≡ done → (n ≤ 131072) × (n % 32 ≡ 0) × (n / 32 * 18 ≤ room)
unfolding quantize_refusal
checked t n room Z e =
    let large = given_passed _ _ _ _ e in
    let torn = given_passed _ _ _ _ large.1 in
    let long : bytes_for t n ≤ room = ltb-false _ _ (given_passed _ _ _ _ torn.1).0 in
    (ltb-false _ _ large.0, eqb-true _ _ (not-false _ torn.0), rw Z at long)

passes : (t : Target) (n room : ℕ) → bytes32 (format_of t) ≡ 18 → n ≤ 131072 → n % 32 ≡ 0 → n / 32 * 18 ≤ room → quantize_refusal t n room ≡ done
unfolding quantize_refusal
passes t n room Z large torn h =
    let long : bytes_for t n ≤ room = rw Z h in
    given_no _ _ _ (le-ltb _ _ large) ∙ given_no _ _ _ (ap not (eq-eqb _ _ torn)) ∙ given_no _ _ _ (le-ltb _ _ long)

converts_them : (n room : ℕ) → n ≤ 131072 → n / 32 * 18 ≤ room → convert_refusal (n / 32 * 18) room ≡ done
unfolding convert_refusal
converts_them n room large h =
    let few : n / 32 * 18 ≤ 16777216 = omega arith in
    let whole : n / 32 * 18 % 18 ≡ 0 = omega arith in
    given_no _ _ _ (le-ltb _ _ few) ∙ given_no _ _ _ (ap not (eq-eqb _ _ whole)) ∙ given_no _ _ _ (le-ltb _ _ h)

-- (c) a quantizer that is done, and a converter over what it wrote: into any room the converter leaves what the quantizer of the other order leaves there, and that one's scales lose the same
pub quantizes_alike : (d : Direction) (xs : List Float) (out left room : List ℕ) (l : Lost) → quantize_says (target_read d) xs out ≡ (Ok l, left) → length xs / 32 * 18 ≤ length room
    → (let then = packed (target_written d) xs ++ drop (length xs / 32 * 18) room in
    (convert_says d (take (length xs / 32 * 18) left) room ≡ (done, then)) × (quantize_says (target_written d) xs room ≡ (Ok l, then)))
unfolding quantize_says
quantizes_alike d xs out left room l e h =
    let n = length xs / 32 * 18 in
    let from = packed (target_read d) xs in
    let said = else_passed _ (Ok (lost_by (target_read d) xs)) l (sym (carried_said _ _ _) ∙ ap (λ (p : Said Lost × List ℕ). p.0) e) in
    let known = checked (target_read d) (length xs) (length out) (size_read d) said.0 in
    let size : length from ≡ n = length_table (packed_at (target_read d) xs) n in
    let wrote : left ≡ from ++ drop n out = ap (λ (p : Said Lost × List ℕ). p.1) (sym e ∙ packs (target_read d) xs out (size_read d) said.0) in
    let read : take n left ≡ from = ap (take n) wrote ∙ take_at from (drop n out) n size in
    let lost : Ok (lost_by (target_written d) xs) ≡ Ok l = ap Ok (sym (same_lost d xs (length xs / 32))) ∙ said.1 in (
      ap (λ (bs : List ℕ). convert_says d bs room) read
          ∙ converts d from room (ap (λ (k : ℕ). convert_refusal k (length room)) size ∙ converts_them (length xs) (length room) known.0 h)
          ∙ ap (λ (k : ℕ). (done, converted d from ++ drop k room)) size
          ∙ ap (λ (bs : List ℕ). (done, bs ++ drop n room)) (converted_packed xs d),
      packs (target_written d) xs room (size_written d) (passes (target_written d) (length xs) (length room) (size_written d) known.0 known.1 h)
          ∙ ap (λ (s : Said Lost). (s, packed (target_written d) xs ++ drop n room)) lost,
    )
