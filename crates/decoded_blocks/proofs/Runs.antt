-- A block decoded in runs of 16, which are lent in turn, and a K block's values in run e: what a turn of its decoder puts there is what the layout says. Assumes nothing.
use mathlib.Core.Path.{◌≡◌, refl, ap, ◌∙◌}
use Prim.Native.Nat.{ℕ, ◌+◌, ◌-◌, ◌*◌, ◌/◌, ◌≤◌, ◌<◌}
use native.Mathlib.Nat.{le_of_eq}
use native.Mathlib.Omega.{arith}
use mathlib.Core.List.{List}
use lib.IntN.{ℤ, pos}
use lib.ListN.{length, get_or, take, drop}
use lib.Ieee.{Float, nan, binary32, mul, sub, of_int}
use Rattle.memory.specs.Lists.{table}
use Rattle.memory.proofs.Filled.{get_or_table, table_ext, part_at, filled_all, part_length}
use Rattle.memory.proofs.Parts.{InParts, parts_done}
use Rattle.layouts.specs.Formats.{has_minimums}
use Rattle.layouts.specs.K.{quant_k, d_scale, value_of, value_k}
use Rattle.layouts.specs.declared.format.FormatK.{FormatK}
use Rattle.layouts.specs.declared.format.FormatK.TheVariants.{Q4K, Q6K}
use Rattle.layouts.proofs.Minimums.{same_value}
use Rattle.k_scales.specs.Both.{scale_then_minimum}
use Rattle.k_scales.proofs.Both.{scale_at, minimum_at}

-- run e of a block of so many is lent, of its whole numbers and of the output: each part has 16 places
pub run_lengths : {A : Type 0} (q : List A) (out : List Float) (runs e : ℕ) → length q ≡ 16 * runs → length out ≡ 16 * runs → e < runs
    → (length (take (16 * e + 16 - 16 * e) (drop (16 * e) q)) ≡ 16) × (length (take (16 * e + 16 - 16 * e) (drop (16 * e) out)) ≡ 16)
run_lengths q out runs e t n h = (part_length q (16 * e) 16 (16 * e + 16) refl (omega arith), part_length out (16 * e) 16 (16 * e + 16) refl (omega arith))

-- the runs are filled: so is the block
pub runs_done : (f : ℕ → Float) (old out : List Float) (runs e : ℕ) → length old ≡ 16 * runs → runs ≤ e → InParts f old (λ r. 16 * r) runs out e → out ≡ table f (16 * runs)
runs_done f old out runs e n h p = parts_done f old (λ r. 16 * r) runs out e h p ∙ filled_all f old (16 * runs) (le_of_eq n)

-- ---- a K block's values

-- those of whole numbers q that are the block's own in the format g, which has minimums where f has
pub of_laid_out : (f g : FormatK) (bs : List ℕ) (q : ℕ → ℤ) → has_minimums g ≡ has_minimums f → ((i : ℕ) → i < 256 → q i ≡ quant_k g bs i) → table (λ i. value_of f bs i (q i)) 256 ≡ table (value_k g bs) 256
of_laid_out f g bs q e W = table_ext _ _ 256 (λ i h. ap (value_of f bs i) (W i h) ∙ same_value f g bs i (quant_k g bs i) e)

module _ (bs : List ℕ) (e l n : ℕ) (k : n ≡ 16) (u : e < 16) (v : l < 16) where
  pub sub_block_run : (s : List Float) (q : List ℕ) → s ≡ table (scale_then_minimum bs) 16
      → sub binary32 (mul binary32 (get_or s (e / 2) nan) (of_int binary32 (pos (get_or (take n (drop (16 * e) q)) l 0)))) (get_or s (e / 2 + 8) nan) ≡ value_of Q4K bs (16 * e + l) (pos (get_or q (16 * e + l) 0))
  sub_block_run s q S =
      let half : e / 2 < 8 = omega arith in
      let j : (16 * e + l) / 32 ≡ e / 2 = omega arith in
      rw (j, k, part_at q (16 * e) 16 l 0 v, scale_at bs (e / 2) half s S, minimum_at bs (e / 2) half s S)

  pub run_of_16 : (s : List Float) (q : List ℤ) → s ≡ table (d_scale Q6K bs) 16
      → mul binary32 (get_or s e nan) (of_int binary32 (get_or (take n (drop (16 * e) q)) l (pos 0))) ≡ value_of Q6K bs (16 * e + l) (get_or q (16 * e + l) (pos 0))
  run_of_16 s q S =
      let r : (16 * e + l) / 16 ≡ e = omega arith in
      rw (r, k, part_at q (16 * e) 16 l (pos 0) v, S, get_or_table (d_scale Q6K bs) 16 e nan u)
