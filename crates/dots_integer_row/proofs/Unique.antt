-- The contracts of `integer_dot_q4k` and `integer_dot_q5k` are each met by one answer alone. Assumes nothing.
use Rattle.refusals.proofs.Once.{OneResult, same}
use Rattle.dots_integer_row.proofs.row.integer_dot_q4k.Reads as integer_dot
use Rattle.dots_integer_row.proofs.row.integer_dot_q5k.Reads as integer_dot_q5k

pub integer_dot_once : OneResult integer_dot.Post
integer_dot_once κs a x y s t h k = same h k

pub integer_dot_q5k_once : OneResult integer_dot_q5k.Post
integer_dot_q5k_once κs a x y s t h k = same h k
