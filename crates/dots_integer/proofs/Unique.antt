-- Each call has one answer: at the same arguments its contract holds of no two. Assumes nothing.
use Rattle.refusals.proofs.Once.{OneResult, same}
use Rattle.dots_integer.proofs.dot.dot_q4k_q8_block.Reads as dot_q4k
use Rattle.dots_integer.proofs.dot.dot_q5k_q8_block.Reads as dot_q5k
use Rattle.dots_integer.proofs.dot.dot_q6k_q8_block.Reads as dot_q6k

pub dot_q4k_once : OneResult dot_q4k.Post
dot_q4k_once κs a x y s t h k = same h k

pub dot_q5k_once : OneResult dot_q5k.Post
dot_q5k_once κs a x y s t h k = same h k

pub dot_q6k_once : OneResult dot_q6k.Post
dot_q6k_once κs a x y s t h k = same h k
