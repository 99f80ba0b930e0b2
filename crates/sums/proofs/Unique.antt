-- Each call has one answer: at the same arguments its contract holds of no two. Assumes nothing.
use Rattle.refusals.proofs.Once.{OneResult, same}
use Rattle.sums.proofs.dot.canonical_dot_pub.Reads as dot
use Rattle.sums.proofs.sum.canonical_sum_pub.Reads as sum

pub dot_once : OneResult dot.Post
dot_once κs a x y s t h k = same h k

pub sum_once : OneResult sum.Post
sum_once κs a x y s t h k = same h k
