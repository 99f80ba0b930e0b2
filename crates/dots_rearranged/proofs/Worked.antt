-- The fused dot does not have the law, by computing: of the worked row it says other bits before and after. Assumes nothing.
use mathlib.Core.Path.{◌≡◌, refl, sym, ap, ◌∙◌}
use Prim.Native.Nat.{ℕ}
use native.Mathlib.Omega.{arith}
use lib.Ieee.{Float, binary32, of_bits, to_bits, of_int, add, sub, mul}
use Rattle.refusals.specs.Said.{Said}
use Rattle.refusals.specs.Refusals.{given}
use Rattle.std.proofs.Common.{Ok, Err}
use Rattle.memory.specs.Lists.{table}
use Rattle.halves.specs.Binary16.{widened}
use Rattle.layouts.specs.K.{scale_q4k, minimum_q4k, quant_q4k}
use Rattle.layouts.specs.Weights.{weight_at}
use Rattle.layouts.specs.declared.format.FormatK.TheVariants.{Q4K}
use Rattle.sums_tree.specs.Tree.{tree, met, pair_up}
use Rattle.sums_lanes.specs.Lanes.{add_to, lanes_from, lanes, chunk_sum}
use Rattle.sums.specs.Rows.{chunk_at, row_sum}
use Rattle.dots_fused.specs.Says.{fused_says}
use Rattle.dots_rearranged.specs.Moved.{moved_byte, moved_weights, moved_readings}
use Rattle.dots_rearranged.specs.Worked.{channels, weights_of, readings_of, weights_before, readings_before, FusedRow}

pub fused_row : FusedRow
unfolding moved_weights moved_readings moved_byte weights_of readings_of fused_says given row_sum chunk_at chunk_sum lanes lanes_from add_to tree met pair_up table weight_at scale_q4k minimum_q4k quant_q4k widened of_bits of_int add sub mul
fused_row = record { weights = refl; readings = refl; before = refl; after = refl }

-- the bits of a value
bits : Said Float → ℕ
bits (Ok v) = to_bits binary32 v
bits (Err why) = 0

bits_apart : bits (Ok (of_bits binary32 0x4b80_0000)) ≡ bits (Ok (of_bits binary32 0x4b80_0001)) → ⊥
unfolding bits to_bits of_bits
bits_apart e = let n : ◌≡◌ {A = ℕ} 0x4b80_0000 0x4b80_0001 = e in omega arith

pub fused_differs : fused_says Q4K (moved_readings Q4K channels 1 readings_before) (moved_weights Q4K channels 1 weights_before) 256 ≡ fused_says Q4K readings_before weights_before 256 → ⊥
fused_differs e = bits_apart (ap bits (sym (rw (fused_row.readings, fused_row.weights) fused_row.after) ∙ e ∙ fused_row.before))
