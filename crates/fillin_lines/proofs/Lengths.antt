-- Every line has a byte at least, and fits a buffer of 172 bytes. Assumes nothing.
use Prim.Native.Nat.{ℕ, ◌≤◌, ◌<◌}
use native.Mathlib.Omega.{arith}
use mathlib.Core.List.{List}
use lib.Ieee.{Float}
use lib.ListN.{length, length-append}
use Rattle.refusals.specs.declared.refusal.Refusal.{Refusal}
use Rattle.refusals.specs.Said.{number}
use Rattle.fillin_lines.specs.Lines.{layer_line, window_head, window_line, refused_line, stop_line, end_line}
use Rattle.fillin_text.proofs.Decimal.{length_field}
use Rattle.fillin_lines.proofs.Outputs.{length_output_fields}

-- the length of a line
pub record Fitting (line : List ℕ) : Type 0 where
  pub some : 0 < length line
  pub most : length line ≤ 172

pub layer_line_length : (format in_feat out_feat : ℕ) → Fitting (layer_line format in_feat out_feat)
unfolding layer_line
layer_line_length format in_feat out_feat =
    let a = length_field format in
    let b = length_field in_feat in
    let c = length_field out_feat in
    record { some = simp length-append (omega arith); most = simp length-append (omega arith) }

pub window_line_length : (number : ℕ) (ys : List Float) → length ys ≤ 16 → Fitting (window_line number ys)
unfolding window_line window_head
window_line_length number ys h =
    let a = length_field number in
    let b = length_output_fields ys in
    record { some = simp length-append (omega arith); most = simp length-append (omega arith) }

pub refused_line_length : (number : ℕ) → Fitting (refused_line number)
unfolding refused_line window_head
refused_line_length number = let a = length_field number in record { some = simp length-append (omega arith); most = simp length-append (omega arith) }

pub stop_line_length : (why : Refusal) (offset : ℕ) → Fitting (stop_line why offset)
unfolding stop_line
stop_line_length why offset =
    let a = length_field (number why) in
    let b = length_field offset in
    record { some = simp length-append (omega arith); most = simp length-append (omega arith) }

pub end_line_length : (answered refused : ℕ) → Fitting (end_line answered refused)
unfolding end_line
end_line_length answered refused =
    let a = length_field answered in
    let b = length_field refused in
    record { some = simp length-append (omega arith); most = simp length-append (omega arith) }
