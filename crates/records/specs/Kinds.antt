-- The kinds of records, what their payloads mean and what is refused of them, in document 01's order. Definitions only.
use Prim.{Unit}
use Rattle.std.specs.Prelude.{ℕ, zero, suc, ◌+◌, ◌*◌, ◌%◌, Bool, false, not, ◌&&◌, ◌||◌, cond, List, leb, ltb, eqb, length, get_or, drop, Float, Ok, Err}
use Rattle.std.specs.Float.{binary32}
use Rattle.std.specs.Float.Ieee.{of_bits}
use Rattle.refusals.specs.Said.{Said, done}
use Rattle.refusals.specs.Refusals.{given, or_else}
use Rattle.refusals.specs.declared.refusal.Refusal.TheVariants.{NotAMultiple, TooLarge, Malformed, Unknown}
use Rattle.numbers.specs.Fields.{le32}
use Rattle.layouts.specs.Formats.{format_named}
use Rattle.layouts.specs.declared.format.FormatK.{FormatK}
use Rattle.layers_shape.specs.Shapes.{weight_bytes}
use Rattle.frames.specs.Frame.{Frame, ended, torn, whole}
use Rattle.records.specs.declared.reader.Item.{Item}
use Rattle.records.specs.declared.reader.Item.TheVariants.{End, Layer, Window, WarmUp}

-- ---- Kind 1, layer: format byte (4, 5 or 6), u32 in_feat (1 to 2,048), u32 out_feat (1 to 16), then exactly the
-- weights

-- the format byte of a layer's payload ..
abbrev pub format_in : List ℕ → ℕ
format_in p = get_or p 0 0

-- .. its in_feat, a u32 behind that byte ..
abbrev pub in_feat_in : List ℕ → ℕ
in_feat_in p = le32 p 1

-- .. its out_feat, a u32 behind in_feat ..
abbrev pub out_feat_in : List ℕ → ℕ
out_feat_in p = le32 p 5

-- .. and its weights, behind a head of 9 bytes
abbrev pub weights_in : List ℕ → List ℕ
weights_in p = drop 9 p

-- a layer's weights have at most 26,880 bytes: 16 rows of 8 blocks of 210
abbrev pub most_weights : ℕ
most_weights = 26880

-- from 1 to most
unfoldable pub up_to : ℕ → ℕ → Bool
up_to most n = leb 1 n && leb n most

-- sizes out of range 6; multiple of 256, 2
unfoldable pub sizes_refusal : (in_feat out_feat : ℕ) → Said (Unit {0})
sizes_refusal in_feat out_feat =
    given TooLarge (not (up_to 2048 in_feat))
    (given TooLarge (not (up_to 16 out_feat))
    (given NotAMultiple (not (eqb (in_feat % 256) 0))
    done))

-- by what the format byte names: format 12; sizes out of range 6; multiple of 256, 2; weight length 11
abbrev pub format_found : Said FormatK → List ℕ → Said Item
format_found (Err why) p = Err why
format_found (Ok f) p =
    or_else (sizes_refusal (in_feat_in p) (out_feat_in p))
    (given Malformed (not (eqb (length p) (9 + weight_bytes f (in_feat_in p) (out_feat_in p))))
    (Ok (Layer (format_in p) (in_feat_in p) (out_feat_in p))))

-- a layer's payload: short layer head 11, then its format
unfoldable pub layer_found : List ℕ → Said Item
layer_found p = given Malformed (ltb (length p) 9) (format_found (format_named (format_in p)) p)

-- ---- Kind 2, window: in_feat f32 values for the latest layer

-- the part of a window's payload that has its readings: all of it
abbrev pub readings_in : List ℕ → List ℕ
readings_in p = p

-- value k of the readings
unfoldable pub reading_at : List ℕ → ℕ → Float
reading_at x k = of_bits binary32 (le32 x (k * 4))

-- one of the first n values has all bits zero
unfoldable pub has_zero : List ℕ → ℕ → Bool
has_zero x zero = false
has_zero x (suc n) = has_zero x n || eqb (le32 x (n * 4)) 0

-- a window's payload: no layer, whose in_feat stands as 0, or wrong size, 11; a window holding a value with all bits
-- zero is a warm-up window
unfoldable pub window_found : List ℕ → (latest : ℕ) → Said Item
window_found p latest =
    given Malformed (eqb latest 0)
    (given Malformed (not (eqb (length (readings_in p)) (latest * 4)))
    (Ok (cond (has_zero (readings_in p) latest) WarmUp Window)))

-- ---- what stands at the front, where the latest layer takes `latest` readings, or 0 where there is none yet

-- kind 1 is a layer, kind 2 a window, and any other is unknown, 12
unfoldable pub kind_found : (kind : ℕ) → List ℕ → (latest : ℕ) → Said Item
kind_found kind p latest = cond (eqb kind 1) (layer_found p) (given Unknown (not (eqb kind 2)) (window_found p latest))

-- nothing is left; bad or cut length 11; then by kind
abbrev pub found : Frame → (latest : ℕ) → Said Item
found ended latest = Ok End
found torn latest = Err Malformed
found (whole kind p rest) latest = kind_found kind p latest
