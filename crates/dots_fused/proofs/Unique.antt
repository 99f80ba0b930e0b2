-- Each call has one answer: at the same arguments its contract holds of no two. Assumes nothing.
use Rattle.refusals.proofs.Once.{OneResult, same}
use Rattle.dots_fused.proofs.dot.fused_dot.Reads as dot
use Rattle.dots_fused.proofs.dot.canonical_dot_q4k_fused.Reads as q4k
use Rattle.dots_fused.proofs.dot.canonical_dot_q5k_fused.Reads as q5k
use Rattle.dots_fused.proofs.dot.q6k_fused_f32_dot.Reads as q6k

pub dot_once : OneResult dot.Post
dot_once κs a x y s t h k = same h k

pub q4k_once : OneResult q4k.Post
q4k_once κs a x y s t h k = same h k

pub q5k_once : OneResult q5k.Post
q5k_once κs a x y s t h k = same h k

pub q6k_once : OneResult q6k.Post
q6k_once κs a x y s t h k = same h k
