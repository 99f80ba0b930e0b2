-- A matrix's weights by row: a row of whole blocks is a run of blocks of its own, and rows that share a block take their places in it. Assumes nothing.
use mathlib.Core.Path.{◌≡◌, refl, sym, ap, ◌∙◌, subst}
use Prim.Native.Nat.{ℕ, zero, suc, ◌+◌, ◌*◌, ◌/◌, ◌%◌, ◌≤◌, ◌<◌}
use native.Mathlib.Nat.{mul_assoc, suc-mul, add-mul, add_assoc, mul-le-mul_right, div-lt_iff_lt-mul, div-add-mod', mod-lt}
use native.Mathlib.Omega.{arith}
use mathlib.Core.List.{List, [], ◌∷◌}
use lib.Arith.{digits_div, digits_mod}
use lib.ListN.{take, drop}
use lib.Seq.{take-take, drop-drop}
use Rattle.memory.specs.Lists.{part}
use Rattle.layouts.specs.Formats.{block_bytes, block_values}
use Rattle.layouts.specs.Weights.{value_in, block, weight_at}
use Rattle.layouts.specs.declared.format.Format.{Format}
use Rattle.layouts.proofs.Sizes.{sizes}

within_take : {A : Type 0} (b m n : ℕ) (ys : List A) → b + m ≤ n → take m (drop b (take n ys)) ≡ take m (drop b ys)
within_take zero m n ys h = take-take m n ys (omega arith)
within_take (suc b) m zero ys h = absurd (omega arith)
within_take (suc b) m (suc n) [] h = refl
within_take (suc b) m (suc n) (y ∷ ys) h = within_take b m n ys (omega arith)

module _ (f : Format) (bs : List ℕ) where
  -- Rows of n values, m of them to a block, as two rows of 128 share a block of 256: row b * m + j has the places from j * n on of block b.
  pub shared_block : (b m j n i : ℕ) → m * n ≡ block_values f → j < m → i < n → weight_at f bs ((b * m + j) * n + i) ≡ value_in f (block f bs b) (j * n + i)
  unfolding weight_at
  shared_block b m j n i e u h =
      let v = block_values f in
      let place : (b * m + j) * n + i ≡ b * v + (j * n + i) =
      ap (λ (k : ℕ). k + i) (add-mul (b * m) j n ∙ ap (λ (k : ℕ). k + j * n) (mul_assoc b m n ∙ ap (λ (k : ℕ). b * k) e)) ∙ add_assoc (b * v) (j * n) i in
      let last : j * n + n ≤ m * n = subst (λ (k : ℕ). k ≤ m * n) (suc-mul j n) (mul-le-mul_right n u) in
      let within : j * n + i < v = subst (λ (k : ℕ). j * n + i < k) e (omega arith) in
      rw (place, digits_div b within, digits_mod b within)

  -- Past k whole blocks the weights go on.
  pub weight_skip : (k i : ℕ) → weight_at f (drop (k * block_bytes f) bs) i ≡ weight_at f bs (k * block_values f + i)
  unfolding weight_at
  weight_skip k i =
      let v = block_values f in
      let z = block_bytes f in
      let P : 0 < v = omega (arith, sizes f) in
      let q = i / v in
      let m : i % v < v = mod-lt i P in
      let e : k * v + i ≡ (k + q) * v + i % v =
      ap (λ (n : ℕ). k * v + n) (sym (div-add-mod' i v)) ∙ sym (add_assoc (k * v) (q * v) (i % v)) ∙ ap (λ (n : ℕ). n + i % v) (sym (add-mul k q v)) in
      let p : k * z + q * z ≡ (k + q) * z = sym (add-mul k q z) in
      ap (λ (b : List ℕ). value_in f (take z b) (i % v)) (drop-drop (q * z) (k * z) bs ∙ ap (λ (n : ℕ). drop n bs) p)
      ∙ rw (e, digits_div (k + q) m, digits_mod (k + q) m)

  -- The first blocks are the first blocks of any run that begins with them.
  pub weight_front : (count i : ℕ) → i < count * block_values f → weight_at f (take (count * block_bytes f) bs) i ≡ weight_at f bs i
  unfolding weight_at
  weight_front count i h =
      let v = block_values f in
      let z = block_bytes f in
      let P : 0 < v = omega (arith, sizes f) in
      let Q : i / v < count = (div-lt_iff_lt-mul P).1 h in
      let k : i / v * z + z ≤ count * z = subst (λ (n : ℕ). n ≤ count * z) (suc-mul (i / v) z) (mul-le-mul_right z Q) in
      ap (λ (b : List ℕ). value_in f b (i % v)) (within_take (i / v * z) z (count * z) bs k)

-- Place i of row r, of rows of `count` whole blocks: the row is a part of the matrix.
pub row_weight : (f : Format) (bs : List ℕ) (r count i : ℕ) → i < count * block_values f
    → weight_at f (part bs (r * (count * block_bytes f)) (count * block_bytes f)) i ≡ weight_at f bs (r * (count * block_values f) + i)
row_weight f bs r count i h =
    let z = block_bytes f in
    weight_front f (drop (r * (count * z)) bs) count i h
    ∙ ap (λ (n : ℕ). weight_at f (drop n bs) i) (sym (mul_assoc r count z))
    ∙ weight_skip f bs (r * count) i
    ∙ ap (λ (n : ℕ). weight_at f bs (n + i)) (mul_assoc r count (block_values f))
