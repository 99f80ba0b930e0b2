-- Runs of whole blocks that are decoded at once: one block alone, and a row that starts and ends with a block. Assumes nothing.
use mathlib.Core.Path.{◌≡◌, refl, sym, ap, ◌∙◌, subst}
use mathlib.Core.List.{List}
use Prim.Native.Nat.{ℕ, ◌+◌, ◌-◌, ◌*◌, ◌/◌, ◌%◌, ◌≤◌, ◌<◌}
use native.Mathlib.Nat.{le_of_eq, add-mul, zero-mul, one-mul, div-add-mod', div_self, div-eq_of_lt, mod-eq_of_lt, mul-div_cancel, le-div_iff_mul-le, le_of_mul-le-mul_right}
use native.Mathlib.Omega.{arith}
use lib.ListN.{length, take, drop}
use lib.Seq.{take_all}
use Rattle.memory.proofs.Filled.{part_length}
use Rattle.layouts.specs.Formats.{block_bytes, block_values}
use Rattle.layouts.specs.Weights.{value_in, weight_at, values_of}
use Rattle.layouts.specs.declared.format.Format.{Format}
use Rattle.layouts.proofs.Sizes.{sizes}
use Rattle.layouts.proofs.Rows.{weight_skip, weight_front}

-- ---- one block

module _ (f : Format) (bs : List ℕ) (whole : length bs ≡ block_bytes f) where
  pub block_values_lem : values_of f (length bs) ≡ block_values f
  block_values_lem =
      let positive : 0 < block_bytes f = omega (arith, sizes f) in
      rw (whole, div_self positive) (one-mul (block_values f))

  pub block_weight : (i : ℕ) → i < block_values f → weight_at f bs i ≡ value_in f bs i
  unfolding weight_at
  block_weight i h = rw (div-eq_of_lt h, mod-eq_of_lt h, zero-mul (block_bytes f), take_all (block_bytes f) bs (le_of_eq whole))

-- ---- a row

-- The row's n weights from place `from` on: from the first block's on, as many blocks.
module _
    (f : Format)
    (w : List ℕ)
    (from n size v : ℕ)
    (S : size ≡ block_bytes f)
    (W : v ≡ block_values f)
    (rest : from % v + n % v ≤ 0)
    (room : from + n ≤ values_of f (length w)) where
  first : from / v * v ≡ from
  first = let d = div-add-mod' from v in omega arith

  all : n / v * v ≡ n
  all = let d = div-add-mod' n v in omega arith

  pub row_fits : from / v * size + n / v * size ≤ length w
  row_fits =
      let positive : 0 < v = omega (arith, sizes f, W) in
      let some : 0 < size = omega (arith, sizes f, S) in
      let values : (from / v + n / v) * v ≤ length w / size * v = rw (add-mul (from / v) (n / v) v, first, all, S, W) room in
      let blocks : from / v + n / v ≤ length w / size = le_of_mul-le-mul_right values positive in
      subst (λ (k : ℕ). k ≤ length w) (add-mul (from / v) (n / v) size) ((le-div_iff_mul-le some).0 blocks)

  -- the row's bytes, as they are lent
  abbrev lent : List ℕ
  lent = take (from / v * size + n / v * size - from / v * size) (drop (from / v * size) w)

  pub row_values : values_of f (length lent) ≡ n
  row_values =
      let some : 0 < size = omega (arith, sizes f, S) in
      let long : length lent ≡ n / v * size = part_length w (from / v * size) (n / v * size) (from / v * size + n / v * size) refl row_fits in
      rw (long, ← S, ← W, mul-div_cancel (n / v) some) all

  pub row_weights : (i : ℕ) → i < n → weight_at f lent i ≡ weight_at f w (from + i)
  row_weights i h =
      let z = block_bytes f in
      let d : from / v * size + n / v * size - from / v * size ≡ n / v * z = rw S (omega arith) in
      let within : i < n / v * block_values f = rw (← W, all) h in
      ap (λ (k : ℕ). weight_at f (take k (drop (from / v * size) w)) i) d
      ∙ ap (λ (k : ℕ). weight_at f (take (n / v * z) (drop (from / v * k) w)) i) S
      ∙ weight_front f (drop (from / v * z) w) (n / v) i within
      ∙ weight_skip f w (from / v) i
      ∙ ap (λ (k : ℕ). weight_at f w (k + i)) (ap (λ (k : ℕ). from / v * k) (sym W) ∙ first)
