-- Each call's contract is met by one answer alone, and by one content of its output. Assumes nothing.
use Rattle.refusals.proofs.Once.{OneCall, both}
use Rattle.decoders.proofs.blocks.dequantize_q4_0.Reads as dequantize_q4_0
use Rattle.decoders.proofs.blocks.dequantize_q4_0_ggml.Reads as dequantize_q4_0_ggml
use Rattle.decoders.proofs.blocks.dequantize_q5_0.Reads as dequantize_q5_0
use Rattle.decoders.proofs.blocks.dequantize_q8_0.Reads as dequantize_q8_0
use Rattle.decoders.proofs.blocks.dequantize_iq4_nl.Reads as dequantize_iq4_nl
use Rattle.decoders.proofs.blocks.dequantize_q4_k.Reads as dequantize_q4_k
use Rattle.decoders.proofs.blocks.dequantize_q5_k.Reads as dequantize_q5_k
use Rattle.decoders.proofs.blocks.dequantize_q6_k.Reads as dequantize_q6_k

pub dequantize_q4_0_once : OneCall dequantize_q4_0.Post (λ κs s. s.1.0.now)
dequantize_q4_0_once κs a x y s t h k = both h k

pub dequantize_q4_0_ggml_once : OneCall dequantize_q4_0_ggml.Post (λ κs s. s.1.0.now)
dequantize_q4_0_ggml_once κs a x y s t h k = both h k

pub dequantize_q5_0_once : OneCall dequantize_q5_0.Post (λ κs s. s.1.0.now)
dequantize_q5_0_once κs a x y s t h k = both h k

pub dequantize_q8_0_once : OneCall dequantize_q8_0.Post (λ κs s. s.1.0.now)
dequantize_q8_0_once κs a x y s t h k = both h k

pub dequantize_iq4_nl_once : OneCall dequantize_iq4_nl.Post (λ κs s. s.1.0.now)
dequantize_iq4_nl_once κs a x y s t h k = both h k

pub dequantize_q4_k_once : OneCall dequantize_q4_k.Post (λ κs s. s.1.0.now)
dequantize_q4_k_once κs a x y s t h k = both h k

pub dequantize_q5_k_once : OneCall dequantize_q5_k.Post (λ κs s. s.1.0.now)
dequantize_q5_k_once κs a x y s t h k = both h k

pub dequantize_q6_k_once : OneCall dequantize_q6_k.Post (λ κs s. s.1.0.now)
dequantize_q6_k_once κs a x y s t h k = both h k
