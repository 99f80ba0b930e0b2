-- Each call has one answer: at the same arguments its contract holds of no two, and of no two of what it leaves in lent memory. Assumes nothing.
use Prim.Native.Nat.{ℕ}
use mathlib.Core.List.{List}
use lib.Ieee.{Float}
use Rattle.refusals.proofs.Once.{OneResult, OneCall, same, both}
use Rattle.stepped_shape.specs.Layer.{Memory, memory}
use Rattle.stepped_shape.specs.declared.progress.Progress.{Progress}
use Rattle.stepped_shape.specs.Progress.{ran}
use Rattle.dots_activation.specs.Blocks.{block_in}
use Rattle.exports.proofs.activation_blocks.jambharrow_quantize_block_q8.Reads as quantize_block_q8
use Rattle.exports.proofs.activation_blocks.jambharrow_dot_q4k_q8_block.Reads as dot_q4k_q8_block
use Rattle.exports.proofs.activation_blocks.jambharrow_dot_q5k_q8_block.Reads as dot_q5k_q8_block
use Rattle.exports.proofs.activation_blocks.jambharrow_dot_q6k_q8_block.Reads as dot_q6k_q8_block
use Rattle.exports.proofs.activation_blocks.jambharrow_integer_dot_q4k.Reads as integer_dot_q4k
use Rattle.exports.proofs.activation_blocks.jambharrow_integer_dot_q5k.Reads as integer_dot_q5k
use Rattle.exports.proofs.binary16.jambharrow_f16_to_f32.Reads as f16_to_f32
use Rattle.exports.proofs.binary16.jambharrow_f32_to_f16.Reads as f32_to_f16
use Rattle.exports.proofs.block_converters.jambharrow_q4_0_to_ggml.Reads as q4_0_to_ggml
use Rattle.exports.proofs.block_converters.jambharrow_q4_0_from_ggml.Reads as q4_0_from_ggml
use Rattle.exports.proofs.block_decoders.jambharrow_dequantize_q4_0.Reads as dequantize_q4_0
use Rattle.exports.proofs.block_decoders.jambharrow_dequantize_q4_0_ggml.Reads as dequantize_q4_0_ggml
use Rattle.exports.proofs.block_decoders.jambharrow_dequantize_q5_0.Reads as dequantize_q5_0
use Rattle.exports.proofs.block_decoders.jambharrow_dequantize_q8_0.Reads as dequantize_q8_0
use Rattle.exports.proofs.block_decoders.jambharrow_dequantize_iq4_nl.Reads as dequantize_iq4_nl
use Rattle.exports.proofs.block_decoders.jambharrow_dequantize_q4_k.Reads as dequantize_q4_k
use Rattle.exports.proofs.block_decoders.jambharrow_dequantize_q5_k.Reads as dequantize_q5_k
use Rattle.exports.proofs.block_decoders.jambharrow_dequantize_q6_k.Reads as dequantize_q6_k
use Rattle.exports.proofs.block_quantizers.jambharrow_quantize_q4_0.Reads as quantize_q4_0
use Rattle.exports.proofs.block_quantizers.jambharrow_quantize_q4_0_ggml.Reads as quantize_q4_0_ggml
use Rattle.exports.proofs.block_quantizers.jambharrow_quantize_q8_0.Reads as quantize_q8_0
use Rattle.exports.proofs.block_quantizers.jambharrow_quantize_iq4_nl.Reads as quantize_iq4_nl
use Rattle.exports.proofs.fixed_order_sums.jambharrow_canonical_chunk.Reads as canonical_chunk
use Rattle.exports.proofs.fixed_order_sums.jambharrow_canonical_combine.Reads as canonical_combine
use Rattle.exports.proofs.fixed_order_sums.jambharrow_canonical_dot_pub.Reads as canonical_dot_pub
use Rattle.exports.proofs.fixed_order_sums.jambharrow_canonical_sum_pub.Reads as canonical_sum_pub
use Rattle.exports.proofs.fused_dots.jambharrow_canonical_dot_q4k_fused.Reads as canonical_dot_q4k_fused
use Rattle.exports.proofs.fused_dots.jambharrow_canonical_dot_q5k_fused.Reads as canonical_dot_q5k_fused
use Rattle.exports.proofs.fused_dots.jambharrow_q6k_fused_f32_dot.Reads as q6k_fused_f32_dot
use Rattle.exports.proofs.linear_layers.jambharrow_linear_q4_k_fused.Reads as linear_q4_k_fused
use Rattle.exports.proofs.linear_layers.jambharrow_linear_q5_k_fused.Reads as linear_q5_k_fused
use Rattle.exports.proofs.linear_layers.jambharrow_linear_q6_k_fused.Reads as linear_q6_k_fused
use Rattle.exports.proofs.linear_layers.jambharrow_linear_q4_k_integer.Reads as linear_q4_k_integer
use Rattle.exports.proofs.linear_layers.jambharrow_linear_q5_k_integer.Reads as linear_q5_k_integer
use Rattle.exports.proofs.linear_layers.jambharrow_linear_q6_k_integer.Reads as linear_q6_k_integer
use Rattle.exports.proofs.linear_layers.jambharrow_linear_q4_k_integer_rs.Reads as linear_q4_k_integer_rs
use Rattle.exports.proofs.linear_layers.jambharrow_linear_q5_k_integer_rs.Reads as linear_q5_k_integer_rs
use Rattle.exports.proofs.linear_layers.jambharrow_linear_q6_k_integer_rs.Reads as linear_q6_k_integer_rs
use Rattle.exports.proofs.linear_layers.jambharrow_linear_q4_k_cpu.Reads as linear_q4_k_cpu
use Rattle.exports.proofs.linear_layers.jambharrow_linear_q6_k_cpu.Reads as linear_q6_k_cpu
use Rattle.exports.proofs.linear_layers.jambharrow_linear_q4_0_cpu.Reads as linear_q4_0_cpu
use Rattle.exports.proofs.linear_layers.jambharrow_linear_q4_0_ggml_cpu.Reads as linear_q4_0_ggml_cpu
use Rattle.exports.proofs.linear_layers.jambharrow_linear_iq4_nl_cpu.Reads as linear_iq4_nl_cpu
use Rattle.exports.proofs.stepped_layer.jambharrow_open.Reads as opening
use Rattle.exports.proofs.stepped_layer.jambharrow_piece.Reads as piece
use Rattle.exports.proofs.stepped_layer.jambharrow_run.Reads as running
use Rattle.exports.proofs.stepped_layer.jambharrow_close.Reads as closing
use Rattle.exports.proofs.version.jambharrow_version.Reads as version

pub f16_to_f32_once : OneResult f16_to_f32.Post
f16_to_f32_once κs a x y s t h k = same h k

pub f32_to_f16_once : OneCall f32_to_f16.Post (λ κs s. s.1.0.now)
f32_to_f16_once κs a x y s t h k = both h k

pub dequantize_q4_0_once : OneCall dequantize_q4_0.Post (λ κs s. s.1.0.now)
dequantize_q4_0_once κs a x y s t h k = both h k

pub dequantize_q4_0_ggml_once : OneCall dequantize_q4_0_ggml.Post (λ κs s. s.1.0.now)
dequantize_q4_0_ggml_once κs a x y s t h k = both h k

pub dequantize_q5_0_once : OneCall dequantize_q5_0.Post (λ κs s. s.1.0.now)
dequantize_q5_0_once κs a x y s t h k = both h k

pub dequantize_q8_0_once : OneCall dequantize_q8_0.Post (λ κs s. s.1.0.now)
dequantize_q8_0_once κs a x y s t h k = both h k

pub dequantize_iq4_nl_once : OneCall dequantize_iq4_nl.Post (λ κs s. s.1.0.now)
dequantize_iq4_nl_once κs a x y s t h k = both h k

pub dequantize_q4_k_once : OneCall dequantize_q4_k.Post (λ κs s. s.1.0.now)
dequantize_q4_k_once κs a x y s t h k = both h k

pub dequantize_q5_k_once : OneCall dequantize_q5_k.Post (λ κs s. s.1.0.now)
dequantize_q5_k_once κs a x y s t h k = both h k

pub dequantize_q6_k_once : OneCall dequantize_q6_k.Post (λ κs s. s.1.0.now)
dequantize_q6_k_once κs a x y s t h k = both h k

pub quantize_q4_0_once : OneCall {M = List ℕ × List ℕ} quantize_q4_0.Post (λ κs s. (s.1.0.now, s.1.1.0.now))
quantize_q4_0_once κs a x y s t h k = both h k

pub quantize_q4_0_ggml_once : OneCall {M = List ℕ × List ℕ} quantize_q4_0_ggml.Post (λ κs s. (s.1.0.now, s.1.1.0.now))
quantize_q4_0_ggml_once κs a x y s t h k = both h k

pub quantize_q8_0_once : OneCall {M = List ℕ × List ℕ} quantize_q8_0.Post (λ κs s. (s.1.0.now, s.1.1.0.now))
quantize_q8_0_once κs a x y s t h k = both h k

pub quantize_iq4_nl_once : OneCall quantize_iq4_nl.Post (λ κs s. s.1.1.0.now)
quantize_iq4_nl_once κs a x y s t h k = both h k

pub q4_0_to_ggml_once : OneCall q4_0_to_ggml.Post (λ κs s. s.1.0.now)
q4_0_to_ggml_once κs a x y s t h k = both h k

pub q4_0_from_ggml_once : OneCall q4_0_from_ggml.Post (λ κs s. s.1.0.now)
q4_0_from_ggml_once κs a x y s t h k = both h k

pub canonical_chunk_once : OneCall canonical_chunk.Post (λ κs s. s.1.1.0.now)
canonical_chunk_once κs a x y s t h k = both h k

pub canonical_combine_once : OneCall canonical_combine.Post (λ κs s. s.0.now)
canonical_combine_once κs a x y s t h k = both h k

pub canonical_dot_pub_once : OneCall canonical_dot_pub.Post (λ κs s. s.1.1.1.0.now)
canonical_dot_pub_once κs a x y s t h k = both h k

pub canonical_sum_pub_once : OneCall canonical_sum_pub.Post (λ κs s. s.1.1.0.now)
canonical_sum_pub_once κs a x y s t h k = both h k

-- the number, and the block that is left in the four places
pub quantize_block_q8_once : OneCall quantize_block_q8.Post (λ κs s. block_in s.1.0.now s.1.1.0.now s.1.1.1.0.now s.1.1.1.1.0.now)
quantize_block_q8_once κs a x y s t h k = both h k

pub dot_q4k_q8_block_once : OneCall {M = Float × List ℕ} dot_q4k_q8_block.Post (λ κs s. (s.1.1.1.1.1.1.0.now, s.1.1.1.1.1.1.1.0.now))
dot_q4k_q8_block_once κs a x y s t h k = both h k

pub dot_q5k_q8_block_once : OneCall {M = Float × List ℕ} dot_q5k_q8_block.Post (λ κs s. (s.1.1.1.1.1.1.0.now, s.1.1.1.1.1.1.1.0.now))
dot_q5k_q8_block_once κs a x y s t h k = both h k

pub dot_q6k_q8_block_once : OneCall {M = Float × List ℕ} dot_q6k_q8_block.Post (λ κs s. (s.1.1.1.1.1.1.0.now, s.1.1.1.1.1.1.1.0.now))
dot_q6k_q8_block_once κs a x y s t h k = both h k

pub integer_dot_q4k_once : OneCall {M = Float × List ℕ} integer_dot_q4k.Post (λ κs s. (s.1.1.1.0.now, s.1.1.1.1.0.now))
integer_dot_q4k_once κs a x y s t h k = both h k

pub integer_dot_q5k_once : OneCall {M = Float × List ℕ} integer_dot_q5k.Post (λ κs s. (s.1.1.1.0.now, s.1.1.1.1.0.now))
integer_dot_q5k_once κs a x y s t h k = both h k

pub canonical_dot_q4k_fused_once : OneCall {M = Float × List ℕ} canonical_dot_q4k_fused.Post (λ κs s. (s.1.1.1.0.now, s.1.1.1.1.0.now))
canonical_dot_q4k_fused_once κs a x y s t h k = both h k

pub canonical_dot_q5k_fused_once : OneCall {M = Float × List ℕ} canonical_dot_q5k_fused.Post (λ κs s. (s.1.1.1.0.now, s.1.1.1.1.0.now))
canonical_dot_q5k_fused_once κs a x y s t h k = both h k

pub q6k_fused_f32_dot_once : OneCall {M = Float × List ℕ} q6k_fused_f32_dot.Post (λ κs s. (s.1.1.1.0.now, s.1.1.1.1.0.now))
q6k_fused_f32_dot_once κs a x y s t h k = both h k

pub linear_q4_k_fused_once : OneCall {M = List Float × List ℕ} linear_q4_k_fused.Post (λ κs s. (s.1.1.0.now, s.1.1.1.1.1.1.0.now))
linear_q4_k_fused_once κs a x y s t h k = both h k

pub linear_q5_k_fused_once : OneCall {M = List Float × List ℕ} linear_q5_k_fused.Post (λ κs s. (s.1.1.0.now, s.1.1.1.1.1.1.0.now))
linear_q5_k_fused_once κs a x y s t h k = both h k

pub linear_q6_k_fused_once : OneCall {M = List Float × List ℕ} linear_q6_k_fused.Post (λ κs s. (s.1.1.0.now, s.1.1.1.1.1.1.0.now))
linear_q6_k_fused_once κs a x y s t h k = both h k

pub linear_q4_k_integer_once : OneCall {M = List Float × List ℕ} linear_q4_k_integer.Post (λ κs s. (s.1.1.0.now, s.1.1.1.1.1.1.0.now))
linear_q4_k_integer_once κs a x y s t h k = both h k

pub linear_q5_k_integer_once : OneCall {M = List Float × List ℕ} linear_q5_k_integer.Post (λ κs s. (s.1.1.0.now, s.1.1.1.1.1.1.0.now))
linear_q5_k_integer_once κs a x y s t h k = both h k

pub linear_q6_k_integer_once : OneCall {M = List Float × List ℕ} linear_q6_k_integer.Post (λ κs s. (s.1.1.0.now, s.1.1.1.1.1.1.0.now))
linear_q6_k_integer_once κs a x y s t h k = both h k

pub linear_q4_k_integer_rs_once : OneCall {M = List Float × List ℕ} linear_q4_k_integer_rs.Post (λ κs s. (s.1.1.0.now, s.1.1.1.1.1.1.0.now))
linear_q4_k_integer_rs_once κs a x y s t h k = both h k

pub linear_q5_k_integer_rs_once : OneCall {M = List Float × List ℕ} linear_q5_k_integer_rs.Post (λ κs s. (s.1.1.0.now, s.1.1.1.1.1.1.0.now))
linear_q5_k_integer_rs_once κs a x y s t h k = both h k

pub linear_q6_k_integer_rs_once : OneCall {M = List Float × List ℕ} linear_q6_k_integer_rs.Post (λ κs s. (s.1.1.0.now, s.1.1.1.1.1.1.0.now))
linear_q6_k_integer_rs_once κs a x y s t h k = both h k

-- the number, and what the output and scratch hold then
pub linear_q4_k_cpu_once : OneCall {M = List Float × List Float} linear_q4_k_cpu.Post (λ κs s. (s.1.1.0.now, s.1.1.1.0.now))
linear_q4_k_cpu_once κs a x y s t h k = both h k

pub linear_q6_k_cpu_once : OneCall {M = List Float × List Float} linear_q6_k_cpu.Post (λ κs s. (s.1.1.0.now, s.1.1.1.0.now))
linear_q6_k_cpu_once κs a x y s t h k = both h k

pub linear_q4_0_cpu_once : OneCall {M = List Float × List Float} linear_q4_0_cpu.Post (λ κs s. (s.1.1.0.now, s.1.1.1.0.now))
linear_q4_0_cpu_once κs a x y s t h k = both h k

pub linear_q4_0_ggml_cpu_once : OneCall {M = List Float × List Float} linear_q4_0_ggml_cpu.Post (λ κs s. (s.1.1.0.now, s.1.1.1.0.now))
linear_q4_0_ggml_cpu_once κs a x y s t h k = both h k

pub linear_iq4_nl_cpu_once : OneCall {M = List Float × List Float} linear_iq4_nl_cpu.Post (λ κs s. (s.1.1.0.now, s.1.1.1.0.now))
linear_iq4_nl_cpu_once κs a x y s t h k = both h k

-- the number, and the slots and marks that are left
pub open_once : OneCall opening.Post (λ κs s. memory s.1.1.1.0.now s.1.1.1.1.0.now)
open_once κs a x y s t h k = both h k

pub piece_once : OneCall {M = Memory × List ℕ} piece.Post (λ κs s. (memory s.1.1.1.1.1.1.1.0.now s.1.1.1.1.1.1.1.1.0.now, s.1.1.1.1.1.1.1.1.1.0.now))
piece_once κs a x y s t h k = both h k

-- the number, and the two counts, the slots, the marks and the block counts that are left
pub run_once : OneCall {M = Progress × Memory × List ℕ} running.Post (λ κs s. (ran s.1.1.1.1.1.1.1.1.0.now s.1.1.1.1.1.1.1.1.1.0.now, memory s.1.1.1.1.1.1.0.now s.1.1.1.1.1.1.1.0.now, s.1.1.1.1.1.1.1.1.1.1.0.now))
run_once κs a x y s t h k = both h k

pub close_once : OneCall closing.Post (λ κs s. s.1.1.1.1.1.1.0.now)
close_once κs a x y s t h k = both h k

pub version_once : OneResult version.Post
version_once κs a x y s t h k = same h k
