-- What is read back of a byte that is put together of nibbles or of fields. Assumes nothing.
use mathlib.Core.Path.{◌≡◌, refl, sym, ap, ◌∙◌}
use Prim.Native.Nat.{ℕ, zero, suc, ◌+◌, ◌*◌, ◌/◌, ◌%◌, ◌^◌, ◌<◌}
use native.Mathlib.Nat.{zero-add, mul_assoc, mod-eq_of_lt, div-eq_of_lt, div-one, add-mul-mod_self_left, add-mul-div_left, div-div-eq-div-mul, pow-zero, pow-succ'}
use native.Mathlib.Omega.{arith}
use Rattle.layouts.specs.Of32.{nibble}
use Rattle.dots_rearranged.specs.Moved.{two_nibbles, fields}

-- ---- two nibbles: place i has the nibble on side s

of_two : (x y b s z : ℕ) → b ≡ x + 16 * y → x < 16 → s < 2 → (s ≡ 0 → x ≡ z) → (s ≡ 1 → y ≡ z) → nibble b s ≡ z
of_two x y b zero z e h l p q = let m : b % 16 ≡ x = omega arith in m ∙ p refl
of_two x y b (suc zero) z e h l p q = let m : b / 16 ≡ y = omega arith in m ∙ q refl
of_two x y b (suc (suc s)) z e h l p q = absurd (omega arith)

-- the byte of place i, with its two places: that of the low nibble is in an even stretch of D
of_byte : (q : ℕ → ℕ) (b s i low high : ℕ) → b ≡ q low + 16 * q high → q low < 16 → s < 2 → (s ≡ 0 → low ≡ i) → (s ≡ 1 → high ≡ i) → nibble b s ≡ q i
of_byte q b s i low high e h l x y = of_two (q low) (q high) b s (q i) e h l (λ z. ap q (x z)) (λ z. ap q (y z))

pub nibble_32 : (q : ℕ → ℕ) (b i : ℕ) → i < 256 → ((k : ℕ) → k < 256 → k / 32 % 2 ≡ 0 → q k < 16) → b ≡ two_nibbles 32 q (32 * (i / 64) + i % 32) → nibble b (i / 32 % 2) ≡ q i
nibble_32 q b i h small e =
    let g : (32 * (i / 64) + i % 32) / 32 ≡ i / 64 = omega arith in
    let l : (32 * (i / 64) + i % 32) % 32 ≡ i % 32 = omega arith in
    of_byte q b (i / 32 % 2) i (64 * (i / 64) + i % 32) (64 * (i / 64) + (32 + i % 32)) (rw (g, l) at e) (small (64 * (i / 64) + i % 32) (omega arith) (omega arith)) (omega arith) (λ s. omega arith) (λ s. omega arith)

pub nibble_64 : (q : ℕ → ℕ) (b i : ℕ) → i < 256 → ((k : ℕ) → k < 256 → k / 64 % 2 ≡ 0 → q k < 16)
    → b ≡ two_nibbles 64 q (64 * (i / 128) + (32 * (i % 128 / 32 % 2) + i % 32)) → nibble b (i % 128 / 32 / 2) ≡ q i
nibble_64 q b i h small e =
    let c : 32 * (i % 128 / 32 % 2) + i % 32 ≡ i % 64 = omega arith in
    let g : (64 * (i / 128) + i % 64) / 64 ≡ i / 128 = omega arith in
    let l : (64 * (i / 128) + i % 64) % 64 ≡ i % 64 = omega arith in
    of_byte q b (i % 128 / 32 / 2) i (128 * (i / 128) + i % 64) (128 * (i / 128) + (64 + i % 64)) (rw (c, g, l) at e) (small (128 * (i / 128) + i % 64) inside (even (i / 128) (i % 64) (omega arith))) side low high
  where
    even : (a b : ℕ) → b < 64 → (128 * a + b) / 64 % 2 ≡ 0
    even a b h = omega arith

    inside : 128 * (i / 128) + i % 64 < 256
    inside = omega arith

    side : i % 128 / 32 / 2 < 2
    side = omega arith

    low : i % 128 / 32 / 2 ≡ 0 → 128 * (i / 128) + i % 64 ≡ i
    low s = omega arith

    high : i % 128 / 32 / 2 ≡ 1 → 128 * (i / 128) + (64 + i % 64) ≡ i
    high s = omega arith

-- ---- field t of n fields

pub field_at : (base : ℕ) (q : ℕ → ℕ) (n t : ℕ) → 0 < base → ((k : ℕ) → q k < base) → t < n → fields base q n / base ^ t % base ≡ q t
field_at base q zero t p small h = absurd (omega arith)
field_at base q (suc n) zero p small h =
    rw (pow-zero base, div-one) (add-mul-mod_self_left (q 0) base (fields base (λ (t : ℕ). q (suc t)) n) ∙ mod-eq_of_lt (small 0))
field_at base q (suc n) (suc t) p small h =
    let r = fields base (λ (t : ℕ). q (suc t)) n in
    let a : (q 0 + base * r) / base ≡ r = add-mul-div_left (q 0) r p ∙ ap (λ (k : ℕ). k + r) (div-eq_of_lt (small 0)) ∙ zero-add r in
    rw (pow-succ' base t, ← div-div-eq-div-mul (q 0 + base * r) base (base ^ t), a) (field_at base (λ (k : ℕ). q (suc k)) n t p (λ k. small (suc k)) (omega arith))

pub pairs_up : (t : ℕ) → 2 ^ (2 * t) ≡ 4 ^ t
pairs_up zero = refl
pairs_up (suc t) =
    let e : 2 * suc t ≡ suc (suc (2 * t)) = omega arith in
    rw (e, pow-succ' 2 (suc (2 * t)), pow-succ' 2 (2 * t), pow-succ' 4 t, ← pairs_up t) (sym (mul_assoc 2 2 (2 ^ (2 * t))))
