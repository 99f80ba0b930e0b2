-- The bytes of a converted block: at the places that a turn fills, by the two bytes that it reads, and behind its scale. Assumes nothing.
use mathlib.Core.Path.{◌≡◌}
use Prim.Native.Nat.{ℕ, suc, ◌+◌, ◌*◌, ◌/◌, ◌%◌, ◌<◌}
use native.Mathlib.Omega.{arith}
use mathlib.Core.List.{List}
use lib.Arith.{digits_div, digits_mod}
use lib.ListN.{get_or}
use Rattle.memory.specs.Lists.{part}
use Rattle.layouts.proofs.Quants.{beside_low, beside_high, apart_low, apart_high}
use Rattle.converters.specs.Orders.{moved_byte, converted_byte, converted_at}
use Rattle.converters.specs.declared.direction.Direction.{Direction}
use Rattle.converters.specs.declared.direction.Direction.TheVariants.{ToGgml, FromGgml}

module _ (bs : List ℕ) (k : ℕ) where
  pub apart_even : moved_byte ToGgml bs (2 * k) ≡ get_or bs (2 + k) 0 % 16 + 16 * (get_or bs (10 + k) 0 % 16)
  unfolding moved_byte
  apart_even =
      let p : 2 * k + 16 ≡ 2 * (k + 8) = omega arith in
      let q : 2 + (k + 8) ≡ 10 + k = omega arith in
      rw (beside_low bs 2 k, p, beside_low bs 2 (k + 8), q)

  pub apart_odd : moved_byte ToGgml bs (2 * k + 1) ≡ get_or bs (2 + k) 0 / 16 + 16 * (get_or bs (10 + k) 0 / 16)
  unfolding moved_byte
  apart_odd =
      let p : 2 * k + 1 + 16 ≡ 2 * (k + 8) + 1 = omega arith in
      let q : 2 + (k + 8) ≡ 10 + k = omega arith in
      rw (beside_high bs 2 k, p, beside_high bs 2 (k + 8), q)

  module _ (h : k < 8) where
    pub together_first : moved_byte FromGgml bs k ≡ get_or bs (2 + 2 * k) 0 % 16 + 16 * (get_or bs (3 + 2 * k) 0 % 16)
    unfolding moved_byte
    together_first =
        let q : 2 + (2 * k + 1) ≡ 3 + 2 * k = omega arith in
        rw (apart_low bs 2 (2 * k) (omega arith), apart_low bs 2 (2 * k + 1) (omega arith), q)

    pub together_second : moved_byte FromGgml bs (k + 8) ≡ get_or bs (2 + 2 * k) 0 / 16 + 16 * (get_or bs (3 + 2 * k) 0 / 16)
    unfolding moved_byte
    together_second =
        let p : 2 * (k + 8) ≡ 2 * k + 16 = omega arith in
        let r : 2 * (k + 8) + 1 ≡ 2 * k + 1 + 16 = omega arith in
        let q : 2 + (2 * k + 1) ≡ 3 + 2 * k = omega arith in
        rw (r, p, apart_high bs 2 (2 * k) (omega arith), apart_high bs 2 (2 * k + 1) (omega arith), q)

-- ---- a block, and a run of blocks

-- the nibbles stand behind the scale's two bytes
pub behind_scale : (d : Direction) (bs : List ℕ) (l : ℕ) → moved_byte d bs l ≡ converted_byte d bs (2 + l)
unfolding converted_byte
behind_scale d bs l = let e : 2 + l ≡ suc (suc l) = omega arith in rw e

-- block b's byte at place l is the run's at place b * 18 + l
pub placed : (d : Direction) (bs : List ℕ) (b l : ℕ) → l < 18 → converted_byte d (part bs (b * 18) 18) l ≡ converted_at d bs (b * 18 + l)
unfolding converted_at
placed d bs b l h = rw (digits_div b h, digits_mod b h)
