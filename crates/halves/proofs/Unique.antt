-- Each call's contract is met by one answer alone. Assumes nothing.
use Rattle.refusals.proofs.Once.{OneResult, same}
use Rattle.halves.proofs.binary16.f16_to_f32.Reads as f16_to_f32
use Rattle.halves.proofs.binary16.f32_to_f16.Reads as f32_to_f16
use Rattle.halves.proofs.bits.bits_of.Reads as bits_of
use Rattle.halves.proofs.bits.of_bits.Reads as of_bits

pub f16_to_f32_once : OneResult f16_to_f32.Post
f16_to_f32_once κs a x y s t h k = same h k

pub f32_to_f16_once : OneResult f32_to_f16.Post
f32_to_f16_once κs a x y s t h k = same h k

pub bits_of_once : OneResult bits_of.Post
bits_of_once κs a x y s t h k = same h k

pub of_bits_once : OneResult of_bits.Post
of_bits_once κs a x y s t h k = same h k
