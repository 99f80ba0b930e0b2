-- Each call's contract is met by one answer alone, and by one content of its output. Assumes nothing.
use Rattle.refusals.proofs.Once.{OneCall, both}
use Rattle.layers_integer.proofs.layers.linear_q4_k_integer.Reads as linear_q4_k_integer
use Rattle.layers_integer.proofs.layers.linear_q5_k_integer.Reads as linear_q5_k_integer
use Rattle.layers_integer.proofs.layers.linear_q6_k_integer.Reads as linear_q6_k_integer
use Rattle.layers_integer.proofs.layers.linear_q4_k_integer_rs.Reads as linear_q4_k_integer_rs
use Rattle.layers_integer.proofs.layers.linear_q5_k_integer_rs.Reads as linear_q5_k_integer_rs
use Rattle.layers_integer.proofs.layers.linear_q6_k_integer_rs.Reads as linear_q6_k_integer_rs

pub linear_q4_k_integer_once : OneCall linear_q4_k_integer.Post (λ κs s. s.1.1.0.now)
linear_q4_k_integer_once κs a x y s t h k = both h k

pub linear_q5_k_integer_once : OneCall linear_q5_k_integer.Post (λ κs s. s.1.1.0.now)
linear_q5_k_integer_once κs a x y s t h k = both h k

pub linear_q6_k_integer_once : OneCall linear_q6_k_integer.Post (λ κs s. s.1.1.0.now)
linear_q6_k_integer_once κs a x y s t h k = both h k

pub linear_q4_k_integer_rs_once : OneCall linear_q4_k_integer_rs.Post (λ κs s. s.1.1.0.now)
linear_q4_k_integer_rs_once κs a x y s t h k = both h k

pub linear_q5_k_integer_rs_once : OneCall linear_q5_k_integer_rs.Post (λ κs s. s.1.1.0.now)
linear_q5_k_integer_rs_once κs a x y s t h k = both h k

pub linear_q6_k_integer_rs_once : OneCall linear_q6_k_integer_rs.Post (λ κs s. s.1.1.0.now)
linear_q6_k_integer_rs_once κs a x y s t h k = both h k
