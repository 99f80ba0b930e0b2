-- The lines of `fillin`; each ends with a newline, 10. Definitions only.
use Rattle.std.specs.Prelude.{ℕ, Bool, true, false, List, [], ◌∷◌, ◌++◌, Float}
use Rattle.std.specs.Float.{binary32}
use Rattle.std.specs.Float.Ieee.{to_bits}
use Rattle.refusals.specs.declared.refusal.Refusal.{Refusal}
use Rattle.refusals.specs.Said.{number}
use Rattle.fillin_text.specs.Text.{field, hex_field}
use Rattle.fillin_lines.specs.declared.lines.Line.{Line}
use Rattle.fillin_lines.specs.declared.lines.Line.TheVariants.{Layer, Window, WarmUp, Stop, End}

-- the longest line, a window's with sixteen outputs, has at most 172 bytes: 7, 20 of its number, 16 * 9, and 1
abbrev pub most_line : ℕ
most_line = 172

-- what ends each line
abbrev pub newline : List ℕ
newline = 10 ∷ []

-- Per layer: `layer`, format, in_feat, out_feat.
unfoldable pub layer_line : (format in_feat out_feat : ℕ) → List ℕ
layer_line format in_feat out_feat = (108 ∷ 97 ∷ 121 ∷ 101 ∷ 114 ∷ []) ++
    (field format ++ (field in_feat ++ (field out_feat ++ newline)))

-- how a window's line begins, answered or refused: `window` and its number
unfoldable pub window_head : ℕ → List ℕ
window_head number = (119 ∷ 105 ∷ 110 ∷ 100 ∷ 111 ∷ 119 ∷ []) ++ field number

-- each output's bits as eight upper-case hex digits; a NaN's are 7FC00000
unfoldable pub output_fields : List Float → List ℕ
output_fields [] = []
output_fields (y ∷ ys) = hex_field (to_bits binary32 y) ++ output_fields ys

-- Per window: `window`, its number, then each output's bits ..
unfoldable pub window_line : ℕ → List Float → List ℕ
window_line number ys = window_head number ++ (output_fields ys ++ newline)

-- .. or `refused 13`
unfoldable pub refused_line : ℕ → List ℕ
refused_line number = window_head number ++
    ((32 ∷ 114 ∷ 101 ∷ 102 ∷ 117 ∷ 115 ∷ 101 ∷ 100 ∷ 32 ∷ 49 ∷ 51 ∷ []) ++ newline)

-- `stop`, the number, the record's byte offset
unfoldable pub stop_line : Refusal → (offset : ℕ) → List ℕ
stop_line why offset = (115 ∷ 116 ∷ 111 ∷ 112 ∷ []) ++ (field (number why) ++ (field offset ++ newline))

-- At the end: `end`, windows answered, windows refused.
unfoldable pub end_line : (answered refused : ℕ) → List ℕ
end_line answered refused = (101 ∷ 110 ∷ 100 ∷ []) ++ (field answered ++ (field refused ++ newline))

-- the text of each line; the outputs are a window's
abbrev pub text_of : Line → List Float → List ℕ
text_of (Layer format in_feat out_feat) ys = layer_line format in_feat out_feat
text_of (Window number) ys = window_line number ys
text_of (WarmUp number) ys = refused_line number
text_of (Stop why offset) ys = stop_line why offset
text_of (End answered refused) ys = end_line answered refused

-- nothing is written behind it
abbrev pub is_last : Line → Bool
is_last (Layer format in_feat out_feat) = false
is_last (Window number) = false
is_last (WarmUp number) = false
is_last (Stop why offset) = true
is_last (End answered refused) = true
