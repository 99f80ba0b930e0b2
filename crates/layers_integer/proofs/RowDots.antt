-- An output of `linear_q4_k_integer` is what `integer_dot_q4k` says of its rows, one of `linear_q5_k_integer` what `integer_dot_q5k` says, and so of every format: the integer dot of a row is one, however it is worked. Assumes nothing.
use Prim.{Unit}
use mathlib.Core.Path.{◌≡◌, sym, ap, ◌∙◌}
use mathlib.Core.List.{List}
use Prim.Native.Nat.{ℕ, zero, suc, ◌+◌, ◌*◌, ◌/◌, ◌%◌, ◌≤◌, ◌<◌}
use native.Mathlib.Nat.{le_refl, le_of_eq, add-zero, mul-add-div_right, mul-add-mod_self_right, div-eq_of_lt, mod-eq_of_lt, mul-mod_left}
use native.Mathlib.Omega.{arith}
use borrow.Author.Tests.{le-ltb, eq-eqb, ne_eqb}
use lib.ListN.{length, get_or, drop, length-drop, get_or-append}
use lib.Seq.{length-take-le}
use lib.Ieee.{Float, nan}
use Rattle.refusals.specs.Said.{Said, done}
use Rattle.refusals.specs.Sizes.{most_in}
use Rattle.refusals.specs.Refusals.{given}
use Rattle.refusals.proofs.Laws.{carried_value, carried_said}
use Rattle.std.proofs.Common.{Ok}
use Rattle.memory.specs.Lists.{table, stretches_in}
use Rattle.memory.proofs.Filled.{length_table, get_or_table}
use Rattle.memory.proofs.Parts.{within}
use Rattle.layouts.specs.Formats.{bytes_k}
use Rattle.layouts.specs.declared.format.FormatK.{FormatK}
use Rattle.sums_tree.specs.Tree.{tree, met}
use Rattle.dots_integer_row.specs.Rows.{block_at, integer_row, integer_says}
use Rattle.layers_shape.specs.declared.Shape.{Shape}
use Rattle.layers_shape.specs.Shapes.{row_bytes, layer_refusal, reading_row, weight_row, outputs}
use Rattle.layers_shape.proofs.Fits.{fits}
use Rattle.dots_kept_row.specs.declared.meeting.Meeting.TheVariants.{Tree}
use Rattle.dots_kept_row.specs.Meets.{meets}
use Rattle.layers_integer_row.specs.Outputs.{integer_dot_at, integer_outputs}
use Rattle.layers_integer.specs.Says.{integer_layer_says}

not_nought : (m : ℕ) → suc m ≡ 0 → ⊥
not_nought m e = omega arith

-- the integer dot of a row of whole blocks and as many readings never refuses: its blocks meet in the tree
pub integer_answers : (f : FormatK) (x : List Float) (w : List ℕ) (n : ℕ) → n ≤ most_in → n ≤ length x → n % 256 ≡ 0 → length w ≡ row_bytes f n
    → integer_says f x w n ≡ Ok (meets Tree (block_at f x w n) (n / 256))
unfolding integer_says given integer_row meets tree met table
integer_answers f x w zero most enough whole e = simp (eq-eqb _ _ (ap (λ (k : ℕ). k % bytes_k f) e ∙ mul-mod_left 0 (bytes_k f)))
integer_answers f x w (suc m) most enough whole e =
    let blocks : stretches_in 256 (suc m) ≡ suc m / 256 = omega arith in
    let aligned : length w % bytes_k f ≡ 0 = ap (λ (k : ℕ). k % bytes_k f) e ∙ mul-mod_left (suc m / 256) (bytes_k f) in
    let long : row_bytes f (suc m) ≤ length w = le_of_eq (sym e) in
    simp (le-ltb _ _ most, eq-eqb _ _ aligned, ne_eqb _ _ (not_nought m), blocks, le-ltb _ _ long, le-ltb _ _ enough)

-- the output of reading row b and weight row o
output_at : (v : ℕ → ℕ → Float) (s : Shape) (y : List Float) (b o : ℕ) → b < s.batch → o < s.out_feat → get_or (outputs v s y) (b * s.out_feat + o) nan ≡ v b o
unfolding outputs
output_at v s y b o hb ho =
    let outs = s.out_feat in
    let k = b * outs + o in
    let positive : 0 < outs = omega arith in
    let inside : k < s.batch * outs = omega (arith, within b outs s.batch (s.batch * outs) hb (le_refl _)) in
    let f : ℕ → Float = λ k. v (k / outs) (k % outs) in
    let row : k / outs ≡ b = mul-add-div_right positive b o ∙ ap (λ (j : ℕ). b + j) (div-eq_of_lt ho) ∙ add-zero b in
    let column : k % outs ≡ o = mul-add-mod_self_right b outs o ∙ mod-eq_of_lt ho in
    get_or-append (table f (s.batch * outs)) (drop (s.batch * outs) y) nan k (rw length_table inside) ∙ get_or_table f (s.batch * outs) k nan inside ∙ rw (row, column)

module _ (f : FormatK) (s : Shape) (x : List Float) (w : List ℕ) (b o : ℕ) (in_batch : b < s.batch) (in_outs : o < s.out_feat) where
  -- where a layer does not refuse, the integer dot of row b of the readings and row o of the weights
  row_answers : (y : List Float) → layer_refusal f s (length x) (length w) (length y) ≡ done → integer_says f (reading_row x s b) (weight_row f w s.in_feat o) s.in_feat ≡ Ok (integer_dot_at f Tree (reading_row x s b) w s.in_feat o)
  row_answers y ok =
      let n = s.in_feat in
      let size = row_bytes f n in
      let h = fits f s (length x) (length w) (length y) ok in
      let readings : length (reading_row x s b) ≡ n = length-take-le n (drop (b * n) x) (rw length-drop (omega (arith, within b n s.batch (length x) in_batch h.read))) in
      let weights : length (weight_row f w n o) ≡ size = length-take-le size (drop (o * size) w) (rw length-drop (omega (arith, within o size s.out_feat (length w) in_outs h.weighed))) in
      integer_answers f (reading_row x s b) (weight_row f w n o) n h.within.in_in (le_of_eq (sym readings)) h.whole weights

  -- AN OUTPUT IS THE ROW DOT: of a layer that says it is done, the output at (b, o) is what `integer_dot_q4k` or `integer_dot_q5k` says of row b of the readings and row o of the weights
  pub output_is_integer_dot : (y out : List Float) → integer_layer_says f Tree s x w y ≡ (done, out)
      → integer_says f (reading_row x s b) (weight_row f w s.in_feat o) s.in_feat ≡ Ok (get_or out (b * s.out_feat + o) nan)
  unfolding integer_layer_says
  output_is_integer_dot y out e =
      let said = layer_refusal f s (length x) (length w) (length y) in
      let new = integer_outputs f Tree s x w y in
      let ok = sym (carried_said said new y) ∙ ap (λ (q : Said (Unit {0}) × List Float). q.0) e in
      let same : new ≡ out = ap (λ (q : Said (Unit {0}) × List Float). q.1) (sym (carried_value said new y _ ok) ∙ e) in
      row_answers y ok
      ∙ ap Ok (sym (output_at (λ b o. integer_dot_at f Tree (reading_row x s b) w s.in_feat o) s y b o in_batch in_outs)
      ∙ ap (λ (l : List Float). get_or l (b * s.out_feat + o) nan) same)
