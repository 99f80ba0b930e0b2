-- The contract of `canonical_chunk` is met by one answer alone. Assumes nothing.
use Rattle.refusals.proofs.Once.{OneResult, same}
use Rattle.sums_lanes.proofs.lanes.canonical_chunk.Reads as chunk

pub chunk_once : OneResult chunk.Post
chunk_once κs a x y s t h k = same h k
