-- Each fused layer's contract is met by one answer alone, and by one content of its output. Assumes nothing.
use Rattle.refusals.proofs.Once.{OneCall, both}
use Rattle.layers_fused.proofs.fused_rows.linear_q4_k_fused.Reads as q4_k_fused
use Rattle.layers_fused.proofs.fused_rows.linear_q5_k_fused.Reads as q5_k_fused
use Rattle.layers_fused.proofs.fused_rows.linear_q6_k_fused.Reads as q6_k_fused

pub q4_k_fused_once : OneCall q4_k_fused.Post (λ κs s. s.1.1.0.now)
q4_k_fused_once κs a x y s t h k = both h k

pub q5_k_fused_once : OneCall q5_k_fused.Post (λ κs s. s.1.1.0.now)
q5_k_fused_once κs a x y s t h k = both h k

pub q6_k_fused_once : OneCall q6_k_fused.Post (λ κs s. s.1.1.0.now)
q6_k_fused_once κs a x y s t h k = both h k
