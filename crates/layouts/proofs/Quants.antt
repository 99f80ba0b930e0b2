-- The layouts' whole numbers at the places that a turn fills, by the bytes that it reads. Assumes nothing.
use mathlib.Core.Path.{◌≡◌, ap, ◌∙◌}
use Prim.Native.Nat.{ℕ, zero, suc, ◌+◌, ◌*◌, ◌/◌, ◌%◌, ◌^◌, ◌≤◌, ◌<◌}
use native.Mathlib.Omega.{arith}
use mathlib.Core.List.{List}
use lib.Arith.{digits_div}
use lib.IntN.{pos, ◌-ℤ◌}
use lib.ListN.{get_or}
use Rattle.numbers.specs.Fields.{le32}
use Rattle.layouts.specs.Of32.{nibble, nibble_beside, nibble_apart, value_iq4_nl, quant32}
use Rattle.layouts.specs.K.{nibble_paired, quant_q4k, quant_q5k, quant_q6k}
use Rattle.layouts.specs.declared.format.Format32.TheVariants.{Q40, Q40Ggml, Q50, Iq4Nl}

pub nibble_small : (b k : ℕ) → b < 256 → nibble b k ≤ 15
nibble_small b zero h = omega arith
nibble_small b (suc k) h = omega arith

-- ---- nibbles that are neighbours: byte k has the places 2 k and 2 k + 1

module _ (bs : List ℕ) (at k : ℕ) where
  pub beside_low : nibble_beside bs at (2 * k) ≡ get_or bs (at + k) 0 % 16
  beside_low =
      let a : 2 * k / 2 ≡ k = omega arith in
      let b : 2 * k % 2 ≡ 0 = omega arith in
      rw (a, b)

  pub beside_high : nibble_beside bs at (2 * k + 1) ≡ get_or bs (at + k) 0 / 16
  beside_high =
      let a : (2 * k + 1) / 2 ≡ k = omega arith in
      let b : (2 * k + 1) % 2 ≡ 1 = omega arith in
      rw (a, b)

-- Q4_0: the nibble at place i, which is n
pub q40_at : (bs : List ℕ) (i n : ℕ) → nibble_beside bs 2 i ≡ n → quant32 Q40 bs i ≡ pos n -ℤ pos 8
unfolding quant32
q40_at bs i n e = rw e

-- ---- nibbles 16 apart: byte k has the places k and k + 16

module _ (bs : List ℕ) (at k : ℕ) (h : k < 16) where
  pub apart_low : nibble_apart bs at k ≡ get_or bs (at + k) 0 % 16
  apart_low =
      let a : k % 16 ≡ k = omega arith in
      let b : k / 16 ≡ 0 = omega arith in
      rw (a, b)

  pub apart_high : nibble_apart bs at (k + 16) ≡ get_or bs (at + k) 0 / 16
  apart_high =
      let a : (k + 16) % 16 ≡ k = omega arith in
      let b : (k + 16) / 16 ≡ 1 = omega arith in
      rw (a, b)

-- Q4_0 in GGML's order: the nibble at place i, which is n
pub q40_ggml_at : (bs : List ℕ) (i n : ℕ) → nibble_apart bs 2 i ≡ n → quant32 Q40Ggml bs i ≡ pos n -ℤ pos 8
unfolding quant32
q40_ggml_at bs i n e = rw e

-- IQ4_NL: the value that the nibble at place i picks, which is n
pub iq4_nl_at : (bs : List ℕ) (i n : ℕ) → nibble_apart bs 2 i ≡ n → quant32 Iq4Nl bs i ≡ value_iq4_nl n
unfolding quant32
iq4_nl_at bs i n e = rw e

-- Q5_0: the nibble at place i, which is n, with its high bit above it
pub q50_at : (bs : List ℕ) (i n : ℕ) → nibble_apart bs 6 i ≡ n → quant32 Q50 bs i ≡ pos (n + 16 * (le32 bs 2 / 2 ^ i % 2)) -ℤ pos 16
unfolding quant32
q50_at bs i n e = rw e

-- ---- nibbles of sub-blocks in pairs: place p = 32 j + l of sub-block j, whose byte is a

pub paired_at : (bs : List ℕ) (at j l p a : ℕ) → l < 32 → p ≡ 32 * j + l → a ≡ at + (32 * (j / 2) + l) → nibble (get_or bs a 0) (j % 2) ≡ nibble_paired bs at p
paired_at bs at j l p a h e f =
    let r : 32 * (j % 2) + l < 64 = omega arith in
    let s : 32 * j + l ≡ j / 2 * 64 + (32 * (j % 2) + l) = omega arith in
    let u : (32 * j + l) / 64 ≡ j / 2 = ap (λ (n : ℕ). n / 64) s ∙ digits_div (j / 2) r in
    let v : (32 * j + l) % 32 ≡ l = omega arith in
    let w : (32 * j + l) / 32 ≡ j = omega arith in
    rw (e, f, u, v, w)

pub q4k_at : (bs : List ℕ) (j l p a : ℕ) → l < 32 → p ≡ 32 * j + l → a ≡ 16 + (32 * (j / 2) + l) → nibble (get_or bs a 0) (j % 2) ≡ quant_q4k bs p
unfolding quant_q4k
q4k_at bs = paired_at bs 16

-- Q5_K: that nibble and the fifth bit b, bit j of byte l of the 32
pub q5k_at : (bs : List ℕ) (j l p a b : ℕ) → l < 32 → p ≡ 32 * j + l → a ≡ 48 + (32 * (j / 2) + l) → b ≡ get_or bs (16 + l) 0 / 2 ^ j % 2 → nibble (get_or bs a 0) (j % 2) + 16 * b ≡ quant_q5k bs p
unfolding quant_q5k
q5k_at bs j l p a b h e f B =
    let v : p % 32 ≡ l = omega arith in
    let w : p / 32 ≡ j = omega arith in
    rw (B, paired_at bs 48 j l p a h e f, v, w)

-- ---- Q6_K: place p = 128 h + 32 t + l of quarter t of half h, whose low byte is a and whose high byte is b

pub q6k_at : (bs : List ℕ) (h t l p a b : ℕ) → t < 4 → l < 32 → p ≡ 128 * h + (32 * t + l) → a ≡ 64 * h + (32 * (t % 2) + l) → b ≡ 128 + (32 * h + l)
    → quant_q6k bs p ≡ pos (nibble (get_or bs a 0) (t / 2) + 16 * (get_or bs b 0 / 2 ^ (2 * t) % 4)) -ℤ pos 32
unfolding quant_q6k
q6k_at bs h t l p a b s k e f g =
    let u : (128 * h + (32 * t + l)) / 128 ≡ h = omega arith in
    let v : (128 * h + (32 * t + l)) % 128 / 32 ≡ t = omega arith in
    let w : (128 * h + (32 * t + l)) % 32 ≡ l = omega arith in
    rw (e, f, g, u, v, w)
