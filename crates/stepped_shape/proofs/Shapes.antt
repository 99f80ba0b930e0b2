-- What follows where a call's checks refuse nothing: the layer's shape, its room, and where its pieces and rows lie. Assumes nothing.
use Prim.Native.Nat.{ℕ, ◌+◌, ◌*◌, ◌%◌, ◌≤◌, ◌<◌}
use mathlib.Core.Path.{◌≡◌, sym}
use mathlib.Core.List.{List}
use native.Mathlib.Omega.{arith}
use native.Mathlib.Nat.{le_of_eq, mul-le-mul}
use borrow.Author.Tests.{ltb-false, leb-false, eqb-true, not-false}
use lib.ListN.{length, get_or}
use Rattle.refusals.specs.Sizes.{most_in, most_out}
use Rattle.refusals.specs.Said.{done}
use Rattle.refusals.proofs.Laws.{given_passed, else_passed}
use Rattle.memory.proofs.Parts.{within}
use Rattle.layouts.specs.Weights.{values_of}
use Rattle.layouts.specs.declared.format.FormatK.{FormatK}
use Rattle.layouts.specs.declared.format.Format.TheVariants.{OfK}
use Rattle.layers_shape.specs.Shapes.{row_bytes}
use Rattle.layers_shape.proofs.Rows.{row_values}
use Rattle.stepped_shape.specs.declared.shape.Layer.{Layer}
use Rattle.stepped_shape.specs.Layer.{chunks, pieces, place, open_in_row}
use Rattle.stepped_shape.specs.Refusals.{shape_refusal, room_refusal, open_refusal, work_refusal, piece_refusal, close_refusal}
use Rattle.stepped_shape.specs.Inner.{LayerReady, PieceRoom, InLayer}

-- ---- the shape

-- what a shape that is not refused is
pub record Shaped (l : Layer) : Type 0 where
  pub inputs : l.in_feat ≤ most_in
  pub outputs : l.out_feat ≤ most_out
  pub whole : l.in_feat % 256 ≡ 0

pub shaped : (l : Layer) → shape_refusal l ≡ done → Shaped l
unfolding shape_refusal
shaped l h =
    let a = given_passed _ _ _ _ h in
    let b = given_passed _ _ _ _ a.1 in
    let d = given_passed _ _ _ _ b.1 in
    record { inputs = ltb-false _ _ a.0; outputs = ltb-false _ _ b.0; whole = eqb-true _ _ (not-false _ d.0) }

module _ (l : Layer) (ok : shape_refusal l ≡ done) where
  -- a row has 16 chunks at most
  pub few_chunks : chunks l ≤ 16
  unfolding chunks
  few_chunks = omega (arith, (shaped l ok).inputs)

  -- a layer's pieces at most: no count of them wraps
  pub few_pieces : pieces l ≤ 1048576
  unfolding pieces
  few_pieces = mul-le-mul (shaped l ok).outputs few_chunks

  -- a row's bytes have its weights
  pub row_enough : (f : FormatK) (k : ℕ) → k ≡ row_bytes f l.in_feat → l.in_feat ≤ values_of (OfK f) k
  row_enough f k e = le_of_eq (sym (row_values f l.in_feat k (shaped l ok).whole e).1)

-- ---- where pieces and rows lie

-- a row's slots, or its marks, lie within those of the layer
pub row_within : (l : Layer) (row : ℕ) → row < l.out_feat → row * chunks l + chunks l ≤ pieces l
unfolding pieces
row_within l row h = within row (chunks l) l.out_feat (pieces l) h (omega arith)

pub place_within : (l : Layer) (row c : ℕ) → InLayer l row c → place l row c < pieces l
unfolding place
place_within l row c h = omega (arith, row_within l row h.row_in, h.chunk_in)

-- ---- the calls' checks

pub room : (l : Layer) (slots marks : ℕ) → room_refusal l slots marks ≡ done → PieceRoom l slots marks
unfolding room_refusal
room l slots marks h =
    let a = given_passed _ _ _ _ h in
    let b = given_passed _ _ _ _ a.1 in
    record { slots_enough = ltb-false _ _ a.0; marks_enough = ltb-false _ _ b.0 }

pub record Openable (l : Layer) (slots marks : ℕ) : Type 0 where
  pub shape : shape_refusal l ≡ done
  pub has_room : PieceRoom l slots marks

pub openable : (l : Layer) (slots marks : ℕ) → open_refusal l slots marks ≡ done → Openable l slots marks
unfolding open_refusal
openable l slots marks h = let a = else_passed _ _ _ h in record { shape = a.0; has_room = room l slots marks a.1 }

pub record Workable (f : FormatK) (l : Layer) (weights readings slots marks : ℕ) : Type 0 where
  pub ready : LayerReady f l weights readings
  pub has_room : PieceRoom l slots marks

pub workable : (f : FormatK) (l : Layer) (weights readings slots marks : ℕ) → work_refusal f l weights readings slots marks ≡ done → Workable f l weights readings slots marks
unfolding work_refusal
workable f l weights readings slots marks h =
    let a = else_passed _ _ _ h in
    let b = given_passed _ _ _ _ a.1 in
    let d = given_passed _ _ _ _ b.1 in
    record { ready = record { shape = a.0; weights_enough = ltb-false _ _ b.0; readings_enough = ltb-false _ _ d.0 }; has_room = room l slots marks d.1 }

pub record Pieceable (f : FormatK) (l : Layer) (weights readings slots : ℕ) (marks : List ℕ) (row c : ℕ) : Type 0 where
  pub able : Workable f l weights readings slots (length marks)
  pub inside : InLayer l row c
  pub still_open : get_or marks (place l row c) 0 ≡ 0

pub pieceable : (f : FormatK) (l : Layer) (weights readings slots : ℕ) (marks : List ℕ) (row c : ℕ) → piece_refusal f l weights readings slots marks row c ≡ done → Pieceable f l weights readings slots marks row c
unfolding piece_refusal
pieceable f l weights readings slots marks row c h =
    let a = else_passed _ _ _ h in
    let b = given_passed _ _ _ _ a.1 in
    let d = given_passed _ _ _ _ b.1 in
    let e = given_passed _ _ _ _ d.1 in
    record {
      able = workable f l weights readings slots (length marks) a.0;
      inside = record { row_in = leb-false _ _ b.0; chunk_in = leb-false _ _ d.0 };
      still_open = eqb-true _ _ (not-false _ e.0);
    }

pub record Closable (l : Layer) (slots : ℕ) (marks : List ℕ) (outputs row : ℕ) : Type 0 where
  pub able : Openable l slots (length marks)
  pub outputs_enough : l.out_feat ≤ outputs
  pub row_in : row < l.out_feat
  pub none_open : open_in_row l marks row ≡ 0

pub closable : (l : Layer) (slots : ℕ) (marks : List ℕ) (outputs row : ℕ) → close_refusal l slots marks outputs row ≡ done → Closable l slots marks outputs row
unfolding close_refusal
closable l slots marks outputs row h =
    let a = else_passed _ _ _ h in
    let b = given_passed _ _ _ _ a.1 in
    let d = given_passed _ _ _ _ b.1 in
    let e = given_passed _ _ _ _ d.1 in
    record {
      able = openable l slots (length marks) a.0;
      outputs_enough = ltb-false _ _ b.0;
      row_in = leb-false _ _ d.0;
      none_open = eqb-true _ _ (not-false _ e.0);
    }
