-- The four calls check: format 12, then 6, then in_feat a multiple of 256 (2), then the buffers they use, then 8, 9,
-- 10. A buffer goes in by its length. Definitions only.
use Prim.{Unit}
use Rattle.std.specs.Prelude.{ℕ, ◌%◌, not, List, ltb, leb, eqb, length, get_or, Ok, Err}
use Rattle.refusals.specs.Sizes.{most_in, most_out}
use Rattle.refusals.specs.Said.{Said, done}
use Rattle.refusals.specs.Refusals.{given, or_else}
use Rattle.refusals.specs.declared.refusal.Refusal.TheVariants.{NotAMultiple, ReadingsShort, RoomShort, TooLarge, Outside, AlreadyDone, PieceOpen}
use Rattle.layouts.specs.declared.format.FormatK.{FormatK}
use Rattle.layers_shape.specs.Shapes.{weight_bytes, layer_short}
use Rattle.stepped_shape.specs.declared.shape.Layer.{Layer}
use Rattle.stepped_shape.specs.Layer.{chunks, pieces, place, open_in_row}

-- format 12, before anything else: where the layer's byte names none, the memory stays as it is, and otherwise the call
-- says what it says of that format
unfoldable pub by_format : {A M : Type 0} → Said FormatK → M → (FormatK → Said A × M) → Said A × M
by_format (Ok f) old says = says f
by_format (Err why) old says = (Err why, old)

-- then 6, then in_feat a multiple of 256 (2)
unfoldable pub shape_refusal : Layer → Said (Unit {0})
shape_refusal l =
    given TooLarge (ltb most_in l.in_feat)
    (given TooLarge (ltb most_out l.out_feat)
    (given NotAMultiple (not (eqb (l.in_feat % 256) 0))
    done))

-- slots or marks too short: every call uses them
unfoldable pub room_refusal : Layer → (slots marks : ℕ) → Said (Unit {0})
room_refusal l slots marks =
    given RoomShort (ltb slots (pieces l))
    (given RoomShort (ltb marks (pieces l))
    done)

-- open: slots, marks
unfoldable pub open_refusal : Layer → (slots marks : ℕ) → Said (Unit {0})
open_refusal l slots marks = or_else (shape_refusal l) (room_refusal l slots marks)

-- piece and run: also weights and readings, for the whole layer
unfoldable pub work_refusal : FormatK → Layer → (weights readings slots marks : ℕ) → Said (Unit {0})
work_refusal f l weights readings slots marks =
    or_else (shape_refusal l)
    (given (layer_short f l.in_feat l.out_feat weights)
    (ltb weights (weight_bytes f l.in_feat l.out_feat))
    (given ReadingsShort (ltb readings l.in_feat)
    (room_refusal l slots marks)))

-- piece: then a row or chunk outside the layer, then a piece that is already done
unfoldable pub piece_refusal : FormatK → Layer → (weights readings slots : ℕ) (marks : List ℕ) (row c : ℕ)
    → Said (Unit {0})
piece_refusal f l weights readings slots marks row c =
    or_else (work_refusal f l weights readings slots (length marks))
    (given Outside (leb l.out_feat row)
    (given Outside (leb (chunks l) c)
    (given AlreadyDone (not (eqb (get_or marks (place l row c) 0) 0))
    done)))

-- close: slots, marks, output; then a row outside the layer, then a piece of the row that is open
unfoldable pub close_refusal : Layer → (slots : ℕ) (marks : List ℕ) (outputs row : ℕ) → Said (Unit {0})
close_refusal l slots marks outputs row =
    or_else (open_refusal l slots (length marks))
    (given RoomShort (ltb outputs l.out_feat)
    (given Outside (leb l.out_feat row)
    (given PieceOpen (not (eqb (open_in_row l marks row) 0))
    done)))
