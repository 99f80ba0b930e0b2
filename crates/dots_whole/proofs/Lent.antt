-- The products of a block, of which two sub-blocks are lent at a time, part g from place 64 g on: the part's quants have five bits as all have, and its pairs are the block's. Assumes nothing.
use mathlib.Core.Path.{◌≡◌, refl}
use mathlib.Core.List.{List}
use Prim.Native.Nat.{ℕ, ◌+◌, ◌-◌, ◌*◌, ◌/◌, ◌%◌, ◌<◌}
use native.Mathlib.Omega.{arith}
use lib.IntN.{ℤ, pos}
use lib.ListN.{length, get_or, take, drop}
use Rattle.memory.proofs.Filled.{part_at, part_length}
use Rattle.dots_activation.specs.Inner.{pair_of}
use Rattle.dots_whole.specs.Inner.{FiveBits, product_at}

-- the part as it is lent
abbrev pub lent : {A : Type 0} → List A → ℕ → List A
lent xs g = take (64 * g + 64 - 64 * g) (drop (64 * g) xs)

lent_at : {A : Type 0} (xs : List A) (g i : ℕ) (z : A) → i < 64 → get_or (lent xs g) i z ≡ get_or xs (64 * g + i) z
lent_at xs g i z h = let n : 64 * g + 64 - 64 * g ≡ 64 = omega arith in rw n (part_at xs (64 * g) 64 i z h)

pub lent_length : {A : Type 0} (xs : List A) (g : ℕ) → length xs ≡ 256 → g < 4 → length (lent xs g) ≡ 64
lent_length xs g e h = part_length xs (64 * g) 64 (64 * g + 64) refl (omega arith)

pub five_bits_lent : (q : List ℕ) (g : ℕ) → length q ≡ 256 → g < 4 → FiveBits q → FiveBits (lent q g)
five_bits_lent q g e h b = record {
  small = λ i l.
      let r : i < 64 = rw (lent_length q g e h) at l in
      rw (lent_at q g i 0 r) (b.small (64 * g + i) (omega arith));
}

pub pairs_lent : (q : List ℕ) (x : List ℤ) (g i : ℕ) → i < 32 → pair_of (product_at (lent q g) (lent x g)) i ≡ pair_of (product_at q x) (32 * g + i)
pairs_lent q x g i h =
    let low = 32 * (i / 16) + i % 16 in
    let high = 32 * (i / 16) + (16 + i % 16) in
    let l : low < 64 = omega arith in
    let k : high < 64 = omega arith in
    let u : 32 * ((32 * g + i) / 16) + (32 * g + i) % 16 ≡ 64 * g + low = omega arith in
    let v : 32 * ((32 * g + i) / 16) + (16 + (32 * g + i) % 16) ≡ 64 * g + high = omega arith in
    rw (lent_at q g low 0 l, lent_at x g low (pos 0) l, lent_at q g high 0 k, lent_at x g high (pos 0) k, u, v)
