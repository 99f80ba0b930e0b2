-- A layer's shape: what it needs, and where its rows lie. Definitions only.
use Prim.{Unit}
use Rattle.std.specs.Prelude.{ℕ, ◌*◌, ◌/◌, ◌%◌, Bool, not, ◌||◌, List, ltb, eqb, Float}
use Rattle.refusals.specs.declared.refusal.Refusal.{Refusal}
use Rattle.refusals.specs.Sizes.{most_in, most_out, most_batch}
use Rattle.refusals.specs.Said.{Said, done}
use Rattle.refusals.specs.Refusals.{given}
use Rattle.refusals.specs.declared.refusal.Refusal.TheVariants.{NotAMultiple, ReadingsShort, RoomShort, TooLarge}
use Rattle.memory.specs.Lists.{filled, part}
use Rattle.layouts.specs.Formats.{bytes_k}
use Rattle.layouts.specs.Counts.{weights_short}
use Rattle.layouts.specs.declared.format.FormatK.{FormatK}
use Rattle.layers_shape.specs.declared.Shape.{Shape}

-- the shape of a call's three sizes
abbrev pub shape : ℕ → ℕ → ℕ → Shape
shape batch in_feat out_feat = record { batch = batch; in_feat = in_feat; out_feat = out_feat }

-- in_feat at most 131,072; out_feat at most 65,536; batch at most 1,024
unfoldable pub oversize : Shape → Bool
oversize s = ltb most_batch s.batch || (ltb most_in s.in_feat || ltb most_out s.out_feat)

-- the bytes of a row of n weights, whole blocks
abbrev pub row_bytes : FormatK → ℕ → ℕ
row_bytes f n = n / 256 * bytes_k f

-- the bytes of a layer's weights, outFeat rows of inFeat
abbrev pub weight_bytes : FormatK → (in_feat out_feat : ℕ) → ℕ
weight_bytes f in_feat out_feat = out_feat * row_bytes f in_feat

-- fewer weight bytes than a layer's weights have: outFeat rows of inFeat need so many blocks
abbrev pub layer_short : FormatK → (in_feat out_feat weights : ℕ) → Refusal
layer_short f in_feat out_feat weights = weights_short f weights (out_feat * (in_feat / 256))

-- Why a fused, integer or `_rs` layer says no, given so many readings, weight bytes and output places. Needs are
-- products of the stated sizes, also when batch or out_feat is 0.
unfoldable pub layer_refusal : FormatK → Shape → (readings weights places : ℕ) → Said (Unit {0})
layer_refusal f s readings weights places =
    given TooLarge (oversize s)
    (given NotAMultiple (not (eqb (s.in_feat % 256) 0))
    (given (layer_short f s.in_feat s.out_feat weights)
    (ltb weights (weight_bytes f s.in_feat s.out_feat))
    (given ReadingsShort (ltb readings (s.batch * s.in_feat))
    (given RoomShort (ltb places (s.batch * s.out_feat))
    done))))

-- row b of the readings
abbrev pub reading_row : List Float → Shape → ℕ → List Float
reading_row x s b = part x (b * s.in_feat) s.in_feat

-- row o of weights whose rows are whole blocks
abbrev pub weight_row : FormatK → List ℕ → ℕ → ℕ → List ℕ
weight_row f w n o = part w (o * row_bytes f n) (row_bytes f n)

-- the output y, row-major: the value of reading row b and weight row o at b * out_feat + o, and surplus places kept
unfoldable pub outputs : (ℕ → ℕ → Float) → Shape → List Float → List Float
outputs v s y = filled (λ k. v (k / s.out_feat) (k % s.out_feat)) y (s.batch * s.out_feat)
