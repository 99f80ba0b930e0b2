-- Each call's contract is met by one answer alone, and by one content of its output. Assumes nothing.
use Rattle.refusals.proofs.Once.{OneCall, both}
use Rattle.converters.proofs.blocks.q4_0_to_ggml.Reads as q4_0_to_ggml
use Rattle.converters.proofs.blocks.q4_0_from_ggml.Reads as q4_0_from_ggml

pub q4_0_to_ggml_once : OneCall q4_0_to_ggml.Post (λ κs s. s.1.0.now)
q4_0_to_ggml_once κs a x y s t h k = both h k

pub q4_0_from_ggml_once : OneCall q4_0_from_ggml.Post (λ κs s. s.1.0.now)
q4_0_from_ggml_once κs a x y s t h k = both h k
