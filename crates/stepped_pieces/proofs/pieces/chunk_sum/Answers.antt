-- `pieces::chunk_sum` meets its contract. Assumes nothing.
use native.Mathlib.Omega.{arith}
use mathlib.Core.Path.{◌≡◌, refl, ap, ◌∙◌}
use mathlib.Core.List.{List}
use Prim.Native.Nat.{ℕ, ◌≤◌, ◌<◌, ◌+◌, ◌*◌}
use lib.ListN.{length}
use Rattle.memory.proofs.Filled.{part_length}
use Rattle.memory.proofs.Parts.{within, lent_part}
use Rattle.sums.specs.Rows.{chunk_at}
use Rattle.dots_fused_block.specs.Terms.{terms}
use Rattle.layers_shape.specs.Shapes.{row_bytes}
use Rattle.stepped_shape.specs.Layer.{chunks}
use Rattle.stepped_shape.proofs.Shapes.{shaped, row_enough}
use Rattle.stepped_pieces.specs.Pieces.{sum_at}
use Rattle.stepped_pieces.proofs.pieces.chunk_sum.Goals as goal

pub row_bytes-size-requires : goal.row_bytes-size-requires
row_bytes-size-requires c = (shaped _ c.requires.0.shape).inputs

-- the row's bytes lie within the weights
row_in : (row size rows bytes : ℕ) (w : List ℕ) → size ≡ bytes → row < rows → rows * bytes ≤ length w → row * size + size ≤ length w
row_in row size rows bytes w e inside enough = simp e (within row bytes rows (length w) inside enough)

pub overflow_mul-from : goal.overflow_mul-from
overflow_mul-from c = omega (arith, row_in _ _ _ _ _ c.row_bytes-size.ensures c.requires.1.row_in c.requires.0.weights_enough)

pub overflow_add-to : goal.overflow_add-to
overflow_add-to c = omega (arith, row_in _ _ _ _ _ c.row_bytes-size.ensures c.requires.1.row_in c.requires.0.weights_enough)

pub slice_bounds-chunk_dot-end : goal.slice_bounds-chunk_dot-end
slice_bounds-chunk_dot-end c = omega (arith, row_in _ _ _ _ _ c.row_bytes-size.ensures c.requires.1.row_in c.requires.0.weights_enough)

pub chunk_dot-requires : goal.chunk_dot-requires
unfolding chunks
chunk_dot-requires c =
    let a = c.args in
    let size = c.row_bytes-size.result in (
      (shaped _ c.requires.0.shape).inputs,
      c.requires.0.readings_enough,
      row_enough a.l c.requires.0.shape a.format _ (part_length a.w.now (a.row * size) size (a.row * size + size) refl (row_in _ _ _ _ _ c.row_bytes-size.ensures c.requires.1.row_in c.requires.0.weights_enough) ∙ c.row_bytes-size.ensures),
      c.requires.1.chunk_in,
    )

pub returns : goal.returns
unfolding sum_at
returns c =
    let a = c.args in
    c.chunk_dot.ensures
    ∙ ap (λ (v : List ℕ). chunk_at (terms a.format a.x.now v) a.l.in_feat a.chunk)
    (lent_part a.w.now a.row c.row_bytes-size.result (row_bytes a.format a.l.in_feat) c.row_bytes-size.ensures)
