-- Each call's contract is met by one answer alone, and by one content of its output. Assumes nothing.
use Rattle.refusals.proofs.Once.{OneCall, both}
use Rattle.quantizers.proofs.blocks.quantize_q4_0.Reads as quantize_q4_0
use Rattle.quantizers.proofs.blocks.quantize_q4_0_ggml.Reads as quantize_q4_0_ggml
use Rattle.quantizers.proofs.blocks.quantize_q8_0.Reads as quantize_q8_0
use Rattle.quantizers.proofs.blocks.quantize_iq4_nl.Reads as quantize_iq4_nl

pub quantize_q4_0_once : OneCall quantize_q4_0.Post (λ κs s. s.1.0.now)
quantize_q4_0_once κs a x y s t h k = both h k

pub quantize_q4_0_ggml_once : OneCall quantize_q4_0_ggml.Post (λ κs s. s.1.0.now)
quantize_q4_0_ggml_once κs a x y s t h k = both h k

pub quantize_q8_0_once : OneCall quantize_q8_0.Post (λ κs s. s.1.0.now)
quantize_q8_0_once κs a x y s t h k = both h k

pub quantize_iq4_nl_once : OneCall quantize_iq4_nl.Post (λ κs s. s.1.1.0.now)
quantize_iq4_nl_once κs a x y s t h k = both h k
