-- Converting there and back restores the bytes, and the values of a converted block, by its own layout, are those that it had. Assumes nothing.
use Prim.{Unit}
use mathlib.Core.Path.{◌≡◌, refl, sym, ap, ◌∙◌, subst}
use mathlib.Core.Bool.{Bool, true, false}
use Prim.Native.Nat.{ℕ, zero, suc, ◌+◌, ◌-◌, ◌*◌, ◌/◌, ◌%◌, ◌≤◌, ◌<◌}
use native.Mathlib.Omega.{arith}
use mathlib.Core.List.{List, ◌++◌}
use lib.Dec.{ltb, lit<}
use lib.ListN.{length, get_or, take, drop}
use borrow.Author.Tests.{ltb-true, ltb-false, le-ltb}
use lib.Seq.{take_at, ext_get_or}
use Rattle.refusals.specs.Said.{Said, done}
use Rattle.refusals.proofs.Laws.{given_no, given_passed, carried_value, carried_said}
use Rattle.memory.specs.Lists.{table, filled, part}
use Rattle.memory.proofs.Filled.{length_table, get_or_table, table_ext, part_at, part_length}
use Rattle.numbers.specs.Fields.{le16}
use Rattle.layouts.specs.Of32.{nibble_beside, nibble_apart, quant32, value32}
use Rattle.layouts.specs.Weights.{weight_at, values_of}
use Rattle.layouts.specs.declared.format.Format.TheVariants.{Of32}
use Rattle.layouts.specs.declared.format.Format32.{Format32}
use Rattle.layouts.specs.declared.format.Format32.TheVariants.{Q40, Q40Ggml}
use Rattle.layouts.proofs.Quants.{nibble_small, beside_low, beside_high, apart_low, apart_high}
use Rattle.converters.specs.Orders.{moved_byte, converted_byte, converted_at, converted}
use Rattle.converters.specs.Says.{convert_refusal, convert_says}
use Rattle.converters.specs.declared.direction.Direction.{Direction}
use Rattle.converters.specs.declared.direction.Direction.TheVariants.{ToGgml, FromGgml}
use Rattle.converters.proofs.Moved.{behind_scale, placed}
use Rattle.converters.proofs.Refused.{whole_and_room}

-- the order that a converter reads, the one that it writes, and the way back
abbrev pub order_read : Direction → Format32
order_read ToGgml = Q40
order_read FromGgml = Q40Ggml

abbrev pub order_written : Direction → Format32
order_written ToGgml = Q40Ggml
order_written FromGgml = Q40

abbrev pub back : Direction → Direction
back ToGgml = FromGgml
back FromGgml = ToGgml

-- the nibble at place j, in the order that a converter reads
abbrev pub nibble_read : Direction → List ℕ → ℕ → ℕ
nibble_read ToGgml bs j = nibble_beside bs 2 j
nibble_read FromGgml bs j = nibble_apart bs 2 j

-- what holds of both halves of 32 places, or of both neighbours of 16 pairs, holds of them all
pub by_halves : (P : ℕ → Type 0) → ((k : ℕ) → k < 16 → P k × P (k + 16)) → (j : ℕ) → j < 32 → P j
by_halves P both j h = go (ltb j 16) refl
  where
    go : (t : Bool) → ltb j 16 ≡ t → P j
    go true e = (both j (ltb-true j 16 e)).0
    go false e =
        let high : 16 ≤ j = ltb-false j 16 e in
        let k : j - 16 + 16 ≡ j = omega arith in
        subst P k (both (j - 16) (omega arith)).1

pub by_neighbours : (P : ℕ → Type 0) → ((k : ℕ) → k < 16 → P (2 * k) × P (2 * k + 1)) → (j : ℕ) → j < 32 → P j
by_neighbours P both j h = go (j % 2) refl
  where
    go : (t : ℕ) → t ≡ j % 2 → P j
    go zero e = let k : 2 * (j / 2) ≡ j = omega arith in subst P k (both (j / 2) (omega arith)).0
    go (suc zero) e = let k : 2 * (j / 2) + 1 ≡ j = omega arith in subst P k (both (j / 2) (omega arith)).1
    go (suc (suc t)) e = absurd (omega arith)

-- ---- one block of bytes

module _ (bs : List ℕ) (bytes : (p : ℕ) → p < 18 → get_or bs p 0 < 256) where
  -- the block in the other order
  abbrev moved : Direction → List ℕ
  moved d = table (converted_byte d bs) 18

  nibbles_at : (d : Direction) (k : ℕ) → k < 16 → get_or (moved d) (2 + k) 0 ≡ moved_byte d bs k
  nibbles_at d k h = get_or_table (converted_byte d bs) 18 (2 + k) 0 (omega arith) ∙ sym (behind_scale d bs k)

  beside_small : (j : ℕ) → j < 32 → nibble_beside bs 2 j ≤ 15
  beside_small j h = nibble_small (get_or bs (2 + j / 2) 0) (j % 2) (bytes (2 + j / 2) (omega arith))

  apart_small : (j : ℕ) → j < 32 → nibble_apart bs 2 j ≤ 15
  apart_small j h = nibble_small (get_or bs (2 + j % 16) 0) (j / 16) (bytes (2 + j % 16) (omega arith))

  -- every nibble is at its place in the other order
  nibbles_kept : (d : Direction) (j : ℕ) → j < 32 → nibble_read (back d) (moved d) j ≡ nibble_read d bs j
  unfolding moved_byte
  nibbles_kept ToGgml =
      by_halves (λ j. nibble_apart (moved ToGgml) 2 j ≡ nibble_beside bs 2 j)
      (λ k h.
      let low = beside_small k (omega arith) in
      let byte = nibbles_at ToGgml k h in
      (apart_low (moved ToGgml) 2 k h ∙ ap (λ (b : ℕ). b % 16) byte ∙ omega (arith, low), apart_high (moved ToGgml) 2 k h ∙ ap (λ (b : ℕ). b / 16) byte ∙ omega (arith, low)))
  nibbles_kept FromGgml =
      by_neighbours (λ j. nibble_beside (moved FromGgml) 2 j ≡ nibble_apart bs 2 j)
      (λ k h.
      let low = apart_small (2 * k) (omega arith) in
      let byte = nibbles_at FromGgml k h in
      (beside_low (moved FromGgml) 2 k ∙ ap (λ (b : ℕ). b % 16) byte ∙ omega (arith, low), beside_high (moved FromGgml) 2 k ∙ ap (λ (b : ℕ). b / 16) byte ∙ omega (arith, low)))

  -- the scale's bytes are as they were
  scale_kept : (d : Direction) → le16 (moved d) 0 ≡ le16 bs 0
  unfolding converted_byte
  scale_kept d = rw (get_or_table (converted_byte d bs) 18 0 0 (lit< tt), get_or_table (converted_byte d bs) 18 1 0 (lit< tt))

  -- (b) the values are the same list
  pub same_value : (d : Direction) (j : ℕ) → j < 32 → value32 (order_written d) (moved d) j ≡ value32 (order_read d) bs j
  unfolding quant32
  same_value ToGgml j h = rw (scale_kept ToGgml, nibbles_kept ToGgml j h)
  same_value FromGgml j h = rw (scale_kept FromGgml, nibbles_kept FromGgml j h)

  pub same_values : (d : Direction) → table (value32 (order_written d) (moved d)) 32 ≡ table (value32 (order_read d) bs) 32
  same_values d = table_ext (value32 (order_written d) (moved d)) (value32 (order_read d) bs) 32 (same_value d)

  -- (a) a byte's nibbles come back together
  byte_restored : (d : Direction) (k : ℕ) → k < 16 → moved_byte (back d) (moved d) k ≡ get_or bs (2 + k) 0
  unfolding moved_byte
  byte_restored ToGgml k h =
      let low = nibbles_kept ToGgml (2 * k) (omega arith) ∙ beside_low bs 2 k in
      let high = nibbles_kept ToGgml (2 * k + 1) (omega arith) ∙ beside_high bs 2 k in
      rw (low, high) (omega arith)
  byte_restored FromGgml k h =
      let low = nibbles_kept FromGgml k (omega arith) ∙ apart_low bs 2 k h in
      let high = nibbles_kept FromGgml (k + 16) (omega arith) ∙ apart_high bs 2 k h in
      rw (low, high) (omega arith)

  pub restored : (d : Direction) (p : ℕ) → p < 18 → converted_byte (back d) (moved d) p ≡ get_or bs p 0
  unfolding converted_byte
  restored d zero h = get_or_table (converted_byte d bs) 18 0 0 h
  restored d (suc zero) h = get_or_table (converted_byte d bs) 18 1 0 h
  restored d (suc (suc k)) h =
      let p : 2 + k ≡ suc (suc k) = omega arith in
      byte_restored d k (omega arith) ∙ ap (λ (i : ℕ). get_or bs i 0) p

-- ---- a run of whole blocks

module _ (bs : List ℕ) (bytes : (i : ℕ) → get_or bs i 0 < 256) (whole : length bs % 18 ≡ 0) where
  -- block q of the converted run is block q, converted
  block_converted : (d : Direction) (q : ℕ) → q < length bs / 18 → part (converted d bs) (q * 18) 18 ≡ table (converted_byte d (part bs (q * 18) 18)) 18
  block_converted d q h =
      let n : length (converted d bs) ≡ length bs = length_table (converted_at d bs) (length bs) in
      let room : q * 18 + 18 ≤ length (converted d bs) = omega arith in
      let size : q * 18 + 18 - q * 18 ≡ 18 = omega arith in
      let l : length (part (converted d bs) (q * 18) 18) ≡ 18 = rw size at (part_length (converted d bs) (q * 18) 18 (q * 18 + 18) refl room) in
      ext_get_or 0 (part (converted d bs) (q * 18) 18) (table (converted_byte d (part bs (q * 18) 18)) 18) (l ∙ sym (length_table (converted_byte d (part bs (q * 18) 18)) 18))
      (λ p g.
      let small : p < 18 = omega (arith, l) in
      part_at (converted d bs) (q * 18) 18 p 0 small
      ∙ get_or_table (converted_at d bs) (length bs) (q * 18 + p) 0 (omega arith)
      ∙ sym (placed d bs q p small)
      ∙ sym (get_or_table (converted_byte d (part bs (q * 18) 18)) 18 p 0 small))

  block_bytes : (q p : ℕ) → p < 18 → get_or (part bs (q * 18) 18) p 0 < 256
  block_bytes q p h = rw (part_at bs (q * 18) 18 p 0 h) (bytes (q * 18 + p))

  -- (a) there and back restores the bytes, both ways
  pub there_and_back : (d : Direction) → converted (back d) (converted d bs) ≡ bs
  there_and_back d =
      let n : length (converted d bs) ≡ length bs = length_table (converted_at d bs) (length bs) in
      ext_get_or 0 (converted (back d) (converted d bs)) bs (length_table (converted_at (back d) (converted d bs)) (length (converted d bs)) ∙ n)
      (λ i g.
      let h : i < length bs = omega (arith, length_table (converted_at (back d) (converted d bs)) (length (converted d bs)), n) in
      let q = i / 18 in
      let p = i % 18 in
      let place : q * 18 + p ≡ i = omega arith in
      let small : p < 18 = omega arith in
      get_or_table (converted_at (back d) (converted d bs)) (length (converted d bs)) i 0 (omega (arith, n))
      ∙ ap (converted_at (back d) (converted d bs)) (sym place)
      ∙ sym (placed (back d) (converted d bs) q p small)
      ∙ ap (λ (b : List ℕ). converted_byte (back d) b p) (block_converted d q (omega arith))
      ∙ restored (part bs (q * 18) 18) (block_bytes q) d p small
      ∙ part_at bs (q * 18) 18 p 0 small
      ∙ ap (λ (k : ℕ). get_or bs k 0) place)

  -- (b) the values of the converted run, by its own layout, are those that it had
  same_at : (d : Direction) (i : ℕ) → i < length bs / 18 * 32 → weight_at (Of32 (order_written d)) (converted d bs) i ≡ weight_at (Of32 (order_read d)) bs i
  unfolding weight_at
  same_at ToGgml i h = let q = i / 32 in rw (block_converted ToGgml q (omega arith)) (same_value (part bs (q * 18) 18) (block_bytes q) ToGgml (i % 32) (omega arith))
  same_at FromGgml i h = let q = i / 32 in rw (block_converted FromGgml q (omega arith)) (same_value (part bs (q * 18) 18) (block_bytes q) FromGgml (i % 32) (omega arith))

  pub same_weights : (d : Direction) → (let n = values_of (Of32 (order_read d)) (length bs) in table (weight_at (Of32 (order_written d)) (converted d bs)) n ≡ table (weight_at (Of32 (order_read d)) bs) n)
  same_weights ToGgml = table_ext (weight_at (Of32 Q40Ggml) (converted ToGgml bs)) (weight_at (Of32 Q40) bs) (length bs / 18 * 32) (same_at ToGgml)
  same_weights FromGgml = table_ext (weight_at (Of32 Q40) (converted FromGgml bs)) (weight_at (Of32 Q40Ggml) bs) (length bs / 18 * 32) (same_at FromGgml)

-- ---- as the calls say it

-- what the checks let through into `out` they let through into any room that is as long as the bytes
lets_through : (n out room : ℕ) → convert_refusal n out ≡ done → n ≤ room → convert_refusal n room ≡ done
unfolding convert_refusal
lets_through n out room e h =
    let large = given_passed _ _ _ _ e in
    let torn = given_passed _ _ _ _ large.1 in
    given_no _ _ _ large.0 ∙ given_no _ _ _ torn.0 ∙ given_no _ _ _ (le-ltb _ _ h)

-- a converter whose checks pass converts
pub converts : (d : Direction) (bs room : List ℕ) → convert_refusal (length bs) (length room) ≡ done → convert_says d bs room ≡ (done, converted d bs ++ drop (length bs) room)
unfolding convert_says
converts d bs room passed = carried_value (convert_refusal (length bs) (length room)) (filled (converted_at d bs) room (length bs)) room _ passed

-- of one that is done they passed, and its output begins with the converted bytes
pub was_done : (d : Direction) (bs out left : List ℕ) → convert_says d bs out ≡ (done, left) → (convert_refusal (length bs) (length out) ≡ done) × (take (length bs) left ≡ converted d bs)
unfolding convert_says
was_done d bs out left e =
    let n = length bs in
    let passed : convert_refusal n (length out) ≡ done = sym (carried_said (convert_refusal n (length out)) (filled (converted_at d bs) out n) out) ∙ ap (λ (p : Said (Unit {0}) × List ℕ). p.0) e in
    let wrote : left ≡ converted d bs ++ drop n out = ap (λ (p : Said (Unit {0}) × List ℕ). p.1) (sym e ∙ converts d bs out passed) in
    (passed, ap (take n) wrote ∙ take_at (converted d bs) (drop n out) n (length_table (converted_at d bs) n))

-- (a) a converter that is done, and the other one over what it wrote: its output begins with the first bytes
pub restores : (d : Direction) (bs out left room : List ℕ) → ((i : ℕ) → get_or bs i 0 < 256) → convert_says d bs out ≡ (done, left) → length bs ≤ length room
    → convert_says (back d) (take (length bs) left) room ≡ (done, bs ++ drop (length bs) room)
restores d bs out left room bytes e h =
    let n = length bs in
    let was = was_done d bs out left e in
    let size : length (converted d bs) ≡ n = length_table (converted_at d bs) n in
    let passed = ap (λ (k : ℕ). convert_refusal k (length room)) size ∙ lets_through n (length out) (length room) was.0 h in
    ap (λ (cs : List ℕ). convert_says (back d) cs room) was.1
    ∙ converts (back d) (converted d bs) room passed
    ∙ ap (λ (k : ℕ). (done, converted (back d) (converted d bs) ++ drop k room)) size
    ∙ ap (λ (cs : List ℕ). (done, cs ++ drop n room)) (there_and_back bs bytes (whole_and_room n (length out) was.0).0 d)
