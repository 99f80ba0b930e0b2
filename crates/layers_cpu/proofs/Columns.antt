-- An output that is filled column by column is the output filled row by row, and what scratch holds meanwhile. Assumes nothing.
use mathlib.Core.Path.{◌≡◌, refl, sym, ap, ◌∙◌}
use mathlib.Core.Logic.{inl, inr}
use mathlib.Core.Bool.{cond}
use mathlib.Core.List.{List, ◌++◌}
use Prim.Native.Nat.{ℕ, zero, suc, ◌+◌, ◌-◌, ◌*◌, ◌/◌, ◌%◌, ◌≤◌, ◌<◌}
use native.Mathlib.Nat.{le_refl, mul-zero, mul-one, mul-le-mul_left, le_of_suc-le-suc, eq-or-lt_of_le, lt_trans, lt-suc_self, mod-lt, div-add-mod', div-lt_iff_lt-mul}
use native.Mathlib.Decide.{dec_le}
use native.Mathlib.Numerals.{add-one}
use native.Mathlib.Omega.{arith}
use borrow.Author.Tests.{eq-eqb, ne_eqb}
use lib.Arith.{digits_div, digits_mod}
use lib.ListN.{length, get_or, set, drop, length-set, get_or-append}
use lib.Dec.{eqb}
use lib.Seq.{get_or-set_same, get_or-set_other, ext_get_or, drop_at}
use lib.Ieee.{Float, nan}
use Rattle.memory.specs.Lists.{table, filled}
use Rattle.memory.proofs.Filled.{length_table, get_or_table, length_filled, filled_behind}
use Rattle.memory.proofs.Parts.{within}
use Rattle.layouts.specs.declared.format.Format.{Format}
use Rattle.layers_shape.specs.declared.Shape.{Shape}
use Rattle.layers_cpu.specs.Says.{row_weight}
use Rattle.layers_cpu.specs.Columns.{column, columns, scratch_of}

-- row b lies within the readings, and its place o within the output
pub rows_in : (s : Shape) (b o readings places : ℕ) → b < s.batch → o < s.out_feat → s.batch * s.in_feat ≤ readings → s.batch * s.out_feat ≤ places
    → (b * s.in_feat + s.in_feat ≤ readings) × (b * s.out_feat + o < places)
rows_in s b o readings places h k read room =
    (within b s.in_feat s.batch readings h read, omega (arith, k, within b s.out_feat s.batch places h room))

-- ---- one column

module _ (v : ℕ → Float) (n o : ℕ) (y : List Float) where
  pub column_none : y ≡ column v n o y 0
  unfolding column
  column_none = refl

  pub column_more : (b : ℕ) → set (column v n o y b) (b * n + o) (v b) ≡ column v n o y (b + 1)
  unfolding column
  column_more b = rw add-one

  pub length_column : (b : ℕ) → length (column v n o y b) ≡ length y
  unfolding column
  length_column zero = refl
  length_column (suc b) = length-set (column v n o y b) (b * n + o) (v b) ∙ length_column b

  -- a place that is in none of the first c rows' places o
  column_misses : (c k : ℕ) → ((b : ℕ) → b < c → k ≡ b * n + o → ⊥) → get_or (column v n o y c) k nan ≡ get_or y k nan
  unfolding column
  column_misses zero k h = refl
  column_misses (suc c) k h =
      get_or-set_other (column v n o y c) (c * n + o) k (v c) nan (h c (lt-suc_self c)) ∙ column_misses c k (λ b l. h b (lt_trans l (lt-suc_self c)))

  -- place o of row b, one of the first c
  column_hits : (c b : ℕ) → o < n → b < c → b * n + o < length y → get_or (column v n o y c) (b * n + o) nan ≡ v b
  unfolding column
  column_hits zero b u h l = absurd (omega arith)
  column_hits (suc c) b u h l =
      elim (eq-or-lt_of_le (le_of_suc-le-suc h)) [
        | inl e ↦ rw e (get_or-set_same (column v n o y c) (c * n + o) (v c) nan (rw (length_column c, ← e) l))
        | inr k ↦ get_or-set_other (column v n o y c) (c * n + o) (b * n + o) (v c) nan (other k) ∙ column_hits c b u k l
      ]
    where
      other : b < c → b * n + o ≡ c * n + o → ⊥
      other k e =
          let same : b ≡ c = sym (digits_div b u) ∙ ap (λ (i : ℕ). i / n) e ∙ digits_div c u in
          omega arith

-- ---- all columns

module _ (v : ℕ → ℕ → Float) (batch n : ℕ) (y : List Float) where
  pub columns_none : y ≡ columns v batch n y 0
  unfolding columns
  columns_none = refl

  pub columns_more : (o : ℕ) → column (λ b. v b o) n o (columns v batch n y o) batch ≡ columns v batch n y (o + 1)
  unfolding columns
  columns_more o = rw add-one

  pub length_columns : (o : ℕ) → length (columns v batch n y o) ≡ length y
  unfolding columns
  length_columns zero = refl
  length_columns (suc o) = length_column (λ b. v b o) n o (columns v batch n y o) batch ∙ length_columns o

  columns_behind : (m k : ℕ) → m ≤ n → batch * n ≤ k → get_or (columns v batch n y m) k nan ≡ get_or y k nan
  unfolding columns
  columns_behind zero k h l = refl
  columns_behind (suc m) k h l = column_misses (λ b. v b m) n m (columns v batch n y m) batch k none ∙ columns_behind m k (omega arith) l
    where
      none : (b : ℕ) → b < batch → k ≡ b * n + m → ⊥
      none b u e = omega (arith, within b n batch (batch * n) u (omega arith))

  columns_hit : (m b j : ℕ) → m ≤ n → j < m → b < batch → batch * n ≤ length y → get_or (columns v batch n y m) (b * n + j) nan ≡ v b j
  unfolding columns
  columns_hit zero b j h l u r = absurd (omega arith)
  columns_hit (suc m) b j h l u r =
      elim (eq-or-lt_of_le (le_of_suc-le-suc l)) [
        | inl e ↦ rw e (column_hits (λ i. v i m) n m (columns v batch n y m) batch b h u (rw length_columns inside))
        | inr k ↦ column_misses (λ i. v i m) n m (columns v batch n y m) batch (b * n + j) (other k) ∙ columns_hit m b j (omega arith) k u r
      ]
    where
      inside : b * n + m < length y
      inside = omega (arith, within b n batch (length y) u r)

      other : j < m → (i : ℕ) → i < batch → b * n + j ≡ i * n + m → ⊥
      other k i w e =
          let J : j < n = omega arith in
          let M : m < n = omega arith in
          let same : j ≡ m = sym (digits_mod b J) ∙ ap (λ (q : ℕ). q % n) e ∙ digits_mod i M in
          omega arith

  positive : (k : ℕ) → k < batch * n → 0 < n
  positive k l =
      elim (dec_le n 0) [
        | yes u ↦
            let e : n ≡ 0 = omega arith in
            let nothing : batch * n ≡ 0 = ap (λ (m : ℕ). batch * m) e ∙ mul-zero batch in
            absurd (omega arith)
        | no u ↦ omega arith
      ]

  -- after the last column every output stands, row by row, and surplus places are kept
  pub columns_all : batch * n ≤ length y → columns v batch n y n ≡ filled (λ k. v (k / n) (k % n)) y (batch * n)
  columns_all r = ext_get_or nan (columns v batch n y n) (filled f y (batch * n)) (length_columns n ∙ sym (length_filled f y (batch * n) r)) at
    where
      f : ℕ → Float
      f = λ k. v (k / n) (k % n)

      at : (k : ℕ) → k < length (columns v batch n y n) → get_or (columns v batch n y n) k nan ≡ get_or (filled f y (batch * n)) k nan
      at k h =
          elim (dec_le (batch * n) k) [
            | yes u ↦ columns_behind n k (le_refl n) u ∙ sym (filled_behind f y (batch * n) k nan u)
            | no u ↦
                let l : k < batch * n = omega arith in
                let P : 0 < n = positive k l in
                let place : k / n * n + k % n ≡ k = div-add-mod' k n in
                ap (λ (i : ℕ). get_or (columns v batch n y n) i nan) (sym place)
                ∙ columns_hit n (k / n) (k % n) (le_refl n) (mod-lt k P) ((div-lt_iff_lt-mul P).1 l) r
                ∙ sym (get_or-append (table f (batch * n)) (drop (batch * n) y) nan k (rw length_table l) ∙ get_or_table f (batch * n) k nan l)
          ]

-- ---- scratch

module _ (f : Format) (w : List ℕ) (n : ℕ) (scratch : List Float) where
  pub scratch_none : scratch ≡ scratch_of f w n scratch 0
  unfolding scratch_of
  scratch_none = refl

  behind : (o : ℕ) → drop n (scratch_of f w n scratch o) ≡ drop n scratch
  unfolding scratch_of
  behind zero = refl
  behind (suc o) = drop_at (table (row_weight f w n o) n) (drop n scratch) n (length_table (row_weight f w n o) n)

  -- row o is decoded in the place of the row before
  pub scratch_more : (o : ℕ) (old row : List Float) → old ≡ scratch_of f w n scratch o → row ≡ table (row_weight f w n o) n → row ++ drop n old ≡ scratch_of f w n scratch (o + 1)
  unfolding scratch_of
  scratch_more o old row e r = rw (e, r, behind o, add-one)

  pub length_scratch : (o : ℕ) → n ≤ length scratch → length (scratch_of f w n scratch o) ≡ length scratch
  unfolding scratch_of
  length_scratch zero h = refl
  length_scratch (suc o) h = length_filled (row_weight f w n o) scratch n h

  -- after the last row, where there is a row of readings
  pub scratch_last : (batch out : ℕ) → (batch ≡ 0 → ⊥) → scratch_of f w n scratch out ≡ cond (eqb (batch * out) 0) scratch (filled (row_weight f w n (out - 1)) scratch n)
  unfolding scratch_of
  scratch_last batch zero h = rw (eq-eqb _ _ (mul-zero batch))
  scratch_last batch (suc m) h =
      let more : batch * 1 ≤ batch * suc m = mul-le-mul_left batch (omega arith) in
      let some : batch * suc m ≡ 0 → ⊥ = λ e. h (omega (arith, e, more, mul-one batch)) in
      let before : suc m - 1 ≡ m = omega arith in
      rw (ne_eqb _ _ some, before)
