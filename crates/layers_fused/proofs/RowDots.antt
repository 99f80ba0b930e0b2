-- A layer's row dots never refuse: its own checks were enough. Assumes nothing.
use mathlib.Core.Path.{◌≡◌, refl, sym, ap, ◌∙◌}
use mathlib.Core.List.{List}
use Prim.Native.Nat.{ℕ, zero, suc, ◌+◌, ◌-◌, ◌*◌, ◌%◌, ◌≤◌, ◌<◌}
use native.Mathlib.Nat.{le_of_eq, le_refl}
use native.Mathlib.Omega.{arith}
use borrow.Author.Tests.{le-ltb, eq-eqb, ne_eqb}
use lib.ListN.{length, take, drop}
use lib.Ieee.{Float}
use Rattle.refusals.specs.Said.{done}
use Rattle.refusals.specs.Refusals.{given}
use Rattle.refusals.specs.Sizes.{most_in}
use Rattle.std.proofs.Common.{Ok}
use Rattle.memory.specs.Lists.{table}
use Rattle.memory.proofs.Filled.{part_length}
use Rattle.memory.proofs.Parts.{within, lent_part}
use Rattle.layouts.specs.declared.format.FormatK.{FormatK}
use Rattle.sums_tree.specs.Tree.{tree, met}
use Rattle.sums.specs.Rows.{row_sum}
use Rattle.dots_fused_block.specs.Terms.{terms}
use Rattle.dots_fused.specs.Says.{fused_says}
use Rattle.layers_shape.specs.declared.Shape.{Shape}
use Rattle.layers_shape.specs.Shapes.{row_bytes, layer_refusal}
use Rattle.layers_shape.proofs.Fits.{fits, row_small}
use Rattle.layers_shape.proofs.Rows.{row_values}
use Rattle.layers_fused.specs.Says.{fused_dot_at}

not_nought : (m : ℕ) → suc m ≡ 0 → ⊥
not_nought m e = omega arith

-- the fused dot of a row of whole blocks and as many readings
pub fused_answers : (f : FormatK) (x : List Float) (w : List ℕ) (n : ℕ) → n ≤ most_in → n ≤ length x → n % 256 ≡ 0 → length w ≡ row_bytes f n
    → fused_says f x w n ≡ Ok (row_sum (terms f x w) n)
unfolding fused_says given row_sum tree met table
fused_answers f x w zero most enough whole e = simp (eq-eqb _ _ (row_values f 0 (length w) whole e).0)
fused_answers f x w (suc m) most enough whole e =
    let v = row_values f (suc m) (length w) whole e in
    simp (le-ltb _ _ most, eq-eqb _ _ v.0, ne_eqb _ _ (not_nought m), le-ltb _ _ (le_of_eq (sym v.1)), le-ltb _ _ enough)

-- what the fused dot of row o says, of weights that were lent from its first byte on
pub dot_said : (f : FormatK) (x : List Float) (w : List ℕ) (o size : ℕ) → size ≡ row_bytes f (length x) → length x ≤ most_in → length x % 256 ≡ 0 → o * size + size ≤ length w
    → fused_says f x (take (o * size + size - o * size) (drop (o * size) w)) (length x) ≡ Ok (fused_dot_at f x w (length x) o)
dot_said f x w o size e most whole room =
    let n = length x in
    fused_answers f x _ n most (le_refl n) whole (part_length w (o * size) size (o * size + size) refl room ∙ e)
    ∙ ap (λ (v : List ℕ). Ok (row_sum (terms f x v) n)) (lent_part w o size (row_bytes f n) e)

-- row o lies within the weights
pub row_in : (f : FormatK) (n o outs size room : ℕ) → size ≡ row_bytes f n → n ≤ most_in → o < outs → outs * row_bytes f n ≤ room → (o * size + size ≤ room) × (size ≤ 107520)
row_in f n o outs size room e most h enough =
    (within o size outs room h (rw e enough), rw e (row_small f n most))

-- row b lies within the readings, and its outputs within the output
pub rows_in : (f : FormatK) (s : Shape) (readings weights places b : ℕ) → layer_refusal f s readings weights places ≡ done → b < s.batch
    → (b * s.in_feat + s.in_feat ≤ readings) × (b * s.out_feat + s.out_feat ≤ places)
rows_in f s readings weights places b ok h =
    let z = fits f s readings weights places ok in
    (within b s.in_feat s.batch readings h z.read, within b s.out_feat s.batch places h z.room)
