-- The `_rs` layers are not the tree: one block with d = -1, dmin = 1, the rest 0, readings 0, gives 80000000 by the tree and 00000000 by `_rs`. Assumes nothing.
use mathlib.Core.Path.{◌≡◌, refl}
use mathlib.Core.List.{List, [], ◌∷◌}
use Prim.Native.Nat.{ℕ}
use lib.ListN.{replicate}
use lib.Ieee.{Float, binary32, of_bits, of_int, to_signed, sub, mul, div, le}
use Rattle.refusals.specs.Said.{done}
use Rattle.refusals.specs.Refusals.{given, carried_out}
use Rattle.halves.specs.Binary16.{widened}
use Rattle.numbers.specs.Steps.{nought}
use Rattle.readings.specs.Readings.{largest, quant_q8}
use Rattle.layouts.specs.K.{scale_q4k, minimum_q4k, quant_q4k}
use Rattle.layouts.specs.declared.format.FormatK.TheVariants.{Q4K}
use Rattle.memory.specs.Lists.{table}
use Rattle.sums_tree.specs.Tree.{tree, met, pair_up}
use Rattle.dots_activation.specs.Whole.{sum_ℤ}
use Rattle.dots_activation.specs.Blocks.{block_of}
use Rattle.dots_integer.specs.Dots.{block_dot}
use Rattle.layers_shape.specs.Shapes.{shape, oversize, layer_refusal, outputs}
use Rattle.dots_kept_row.specs.declared.meeting.Meeting.TheVariants.{Tree, Running}
use Rattle.dots_kept_row.specs.Meets.{running, meets}
use Rattle.layers_integer.specs.Says.{integer_layer_says}

-- d = -1, dmin = 1, the rest 0
pub weights : List ℕ
weights = 0x00 ∷ 0xBC ∷ 0x00 ∷ 0x3C ∷ replicate 140 0

pub readings : List Float
readings = replicate 256 nought

pub by_the_tree : integer_layer_says Q4K Tree (shape 1 256 1) readings weights (nought ∷ []) ≡ (done, of_bits binary32 0x80000000 ∷ [])
unfolding integer_layer_says carried_out layer_refusal given oversize outputs meets tree met pair_up weights readings block_dot block_of table sum_ℤ scale_q4k minimum_q4k quant_q4k widened largest quant_q8 of_bits of_int to_signed sub mul div le
by_the_tree = refl

pub by_the_running_sum : integer_layer_says Q4K Running (shape 1 256 1) readings weights (nought ∷ []) ≡ (done, of_bits binary32 0x00000000 ∷ [])
unfolding integer_layer_says carried_out layer_refusal given oversize outputs meets running weights readings block_dot block_of table sum_ℤ scale_q4k minimum_q4k quant_q4k widened largest quant_q8 of_bits of_int to_signed sub mul div le
by_the_running_sum = refl
