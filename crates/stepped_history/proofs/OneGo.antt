-- What the rows come to: the one-go dot of demand 3 is what the row dots of other crates say of the same row, and a layer with no readings has no pieces. Assumes nothing.
use Prim.Native.Nat.{ℕ, ◌*◌, ◌%◌, ◌<◌}
use mathlib.Core.Path.{◌≡◌, sym, ap, ◌∙◌}
use mathlib.Core.List.{List}
use native.Mathlib.Omega.{arith}
use native.Mathlib.Nat.{mul-zero, le_refl}
use lib.ListN.{length, drop, length-drop}
use lib.Seq.{length-take-le}
use lib.Ieee.{Float}
use Rattle.memory.specs.Lists.{table}
use Rattle.memory.proofs.Filled.{length_table}
use Rattle.memory.proofs.Parts.{within}
use Rattle.numbers.specs.Steps.{nought}
use Rattle.layouts.specs.Formats.{bytes_k}
use Rattle.layouts.specs.declared.format.FormatK.{FormatK}
use Rattle.sums_tree.specs.Tree.{tree}
use Rattle.sums.specs.Says.{dot_says}
use Rattle.sums_tree.proofs.TreeLaws.{tree_none}
use Rattle.sums.proofs.RowLaws.{dot_answers}
use Rattle.dots_fused.specs.Says.{fused_says}
use Rattle.dots_fused.proofs.Decoded.{dot_of_weights}
use Rattle.layers_shape.specs.Shapes.{row_bytes, weight_row}
use Rattle.layers_shape.proofs.Rows.{row_values}
use Rattle.stepped_shape.specs.declared.shape.Layer.{Layer}
use Rattle.stepped_shape.specs.Layer.{chunks, pieces}
use Rattle.stepped_shape.specs.Inner.{LayerReady}
use Rattle.stepped_shape.proofs.Shapes.{shaped, row_enough}
use Rattle.stepped_pieces.specs.Pieces.{row_met}
use Rattle.stepped_history.specs.History.{decoded_row, in_one_go}
use Rattle.std.proofs.Common.{Ok}

-- ---- an in_feat of 0 has no pieces, and every row closes at +0.0

no_chunks : (l : Layer) → l.in_feat ≡ 0 → chunks l ≡ 0
unfolding chunks
no_chunks l e = omega (arith, e)

pub no_pieces : (l : Layer) → l.in_feat ≡ 0 → pieces l ≡ 0
unfolding pieces
no_pieces l e = rw (no_chunks l e, mul-zero)

-- nothing meets in +0.0
met_nothing : (f : ℕ → Float) (n : ℕ) → n ≡ 0 → tree (table f n) ≡ nought
met_nothing f n e = sym (ap (λ (q : Float × List Float). q.0) (tree_none (table f n) (length_table f n ∙ e)))

pub closes_at_nought : (l : Layer) (slots : List Float) (row : ℕ) → l.in_feat ≡ 0 → row_met l slots row ≡ nought
unfolding row_met
closes_at_nought l slots row e = met_nothing _ (chunks l) (no_chunks l e)

-- ---- a row of a layer that is worked: what `canonical_dot_pub` says of the row decoded, and the fused row dots of the row's bytes

module _ (f : FormatK) (l : Layer) (w : List ℕ) (x : List Float) (row : ℕ) (ready : LayerReady f l (length w) (length x)) (inside : row < l.out_feat) where
  pub dot_in_one_go : dot_says x (decoded_row f l w row) l.in_feat ≡ Ok (in_one_go f l w x row)
  unfolding in_one_go decoded_row
  dot_in_one_go = dot_answers x (decoded_row f l w row) l.in_feat (shaped l ready.shape).inputs ready.readings_enough (rw length_table (le_refl _))

  row_length : length (weight_row f w l.in_feat row) ≡ row_bytes f l.in_feat
  row_length =
      let size = row_bytes f l.in_feat in
      length-take-le size (drop (row * size) w) (rw length-drop (omega (arith, within row size l.out_feat (length w) inside ready.weights_enough)))

  row_whole : length (weight_row f w l.in_feat row) % bytes_k f ≡ 0
  row_whole = (row_values f l.in_feat _ (shaped l ready.shape).whole row_length).0

  pub fused_in_one_go : fused_says f x (weight_row f w l.in_feat row) l.in_feat ≡ Ok (in_one_go f l w x row)
  unfolding decoded_row
  fused_in_one_go = dot_of_weights f x (weight_row f w l.in_feat row) l.in_feat row_whole (row_enough l ready.shape f _ row_length) ∙ dot_in_one_go
