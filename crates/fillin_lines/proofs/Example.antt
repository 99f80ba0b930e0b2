-- The four lines of document 01's example, and numbers as text at their edges, by computing. Assumes nothing.
use mathlib.Core.Path.{◌≡◌, refl}
use mathlib.Core.List.{[], ◌∷◌}
use lib.Ieee.{nan, binary32, of_bits, to_bits}
use Rattle.memory.specs.Lists.{table}
use Rattle.fillin_text.specs.Text.{decimal_in, decimal, field, hex_digit, hex8, hex_field}
use Rattle.fillin_lines.specs.Lines.{layer_line, window_head, output_fields, window_line, refused_line, end_line}

-- `layer 4 256 1`
pub layer_example : layer_line 4 256 1 ≡ 108 ∷ 97 ∷ 121 ∷ 101 ∷ 114 ∷ 32 ∷ 52 ∷ 32 ∷ 50 ∷ 53 ∷ 54 ∷ 32 ∷ 49 ∷ 10 ∷ []
unfolding layer_line field decimal decimal_in
layer_example = refl

-- `window 1 42000000`: the output is 32.0
pub window_example : window_line 1 (of_bits binary32 0x4200_0000 ∷ [])
    ≡ 119 ∷ 105 ∷ 110 ∷ 100 ∷ 111 ∷ 119 ∷ 32 ∷ 49 ∷ 32 ∷ 52 ∷ 50 ∷ 48 ∷ 48 ∷ 48 ∷ 48 ∷ 48 ∷ 48 ∷ 10 ∷ []
unfolding window_line window_head output_fields field decimal decimal_in hex_field hex8 table hex_digit to_bits of_bits
window_example = refl

-- `window 2 refused 13`
pub refused_example : refused_line 2 ≡ 119 ∷ 105 ∷ 110 ∷ 100 ∷ 111 ∷ 119 ∷ 32 ∷ 50 ∷ 32 ∷ 114 ∷ 101 ∷ 102 ∷ 117 ∷ 115 ∷ 101 ∷ 100 ∷ 32 ∷ 49 ∷ 51 ∷ 10 ∷ []
unfolding refused_line window_head field decimal decimal_in
refused_example = refl

-- `end 1 1`
pub end_example : end_line 1 1 ≡ 101 ∷ 110 ∷ 100 ∷ 32 ∷ 49 ∷ 32 ∷ 49 ∷ 10 ∷ []
unfolding end_line field decimal decimal_in
end_example = refl

-- a NaN is ` 7FC00000`
pub nan_example : output_fields (nan ∷ []) ≡ 32 ∷ 55 ∷ 70 ∷ 67 ∷ 48 ∷ 48 ∷ 48 ∷ 48 ∷ 48 ∷ []
unfolding output_fields hex_field hex8 table hex_digit to_bits
nan_example = refl

-- decimal numbers of one digit, of two, and of the most
pub zero_example : decimal 0 ≡ 48 ∷ []
unfolding decimal decimal_in
zero_example = refl

pub nine_example : decimal 9 ≡ 57 ∷ []
unfolding decimal decimal_in
nine_example = refl

pub ten_example : decimal 10 ≡ 49 ∷ 48 ∷ []
unfolding decimal decimal_in
ten_example = refl

pub most_example : decimal 18446744073709551615
    ≡ 49 ∷ 56 ∷ 52 ∷ 52 ∷ 54 ∷ 55 ∷ 52 ∷ 52 ∷ 48 ∷ 55 ∷ 51 ∷ 55 ∷ 48 ∷ 57 ∷ 53 ∷ 53 ∷ 49 ∷ 54 ∷ 49 ∷ 53 ∷ []
unfolding decimal decimal_in
most_example = refl
