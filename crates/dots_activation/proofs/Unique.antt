-- Each call has one answer: at the same arguments its contract holds of no two. Assumes nothing.
use Rattle.refusals.proofs.Once.{OneResult, same}
use Rattle.dots_activation.proofs.block.quantize_block_q8.Reads as quantize

-- `quantize_block_q8`: the refusal or the block, whole
pub quantize_once : OneResult quantize.Post
quantize_once κs a x y s t h k = same h k
