-- `chunk_dot` has one answer: at the same arguments its contract holds of no two. Assumes nothing.
use Rattle.refusals.proofs.Once.{OneResult, same}
use Rattle.dots_fused_chunk.proofs.chunk.chunk_dot.Reads as chunk

pub chunk_once : OneResult chunk.Post
chunk_once κs a x y s t h k = same h k
