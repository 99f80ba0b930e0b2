-- Each call's contract is met by one answer alone. Assumes nothing.
use Rattle.refusals.proofs.Once.{OneResult, same}
use Rattle.numbers.proofs.fields.le_u16.Reads as le_u16
use Rattle.numbers.proofs.fields.le_u32.Reads as le_u32
use Rattle.numbers.proofs.fields.signed_byte.Reads as signed_byte
use Rattle.numbers.proofs.fields.unsigned_byte.Reads as unsigned_byte
use Rattle.numbers.proofs.steps.magnitude_of.Reads as magnitude_of
use Rattle.numbers.proofs.steps.whole_to_f32.Reads as whole_to_f32

pub le_u16_once : OneResult le_u16.Post
le_u16_once κs a x y s t h k = same h k

pub le_u32_once : OneResult le_u32.Post
le_u32_once κs a x y s t h k = same h k

pub signed_byte_once : OneResult signed_byte.Post
signed_byte_once κs a x y s t h k = same h k

pub unsigned_byte_once : OneResult unsigned_byte.Post
unsigned_byte_once κs a x y s t h k = same h k

pub magnitude_of_once : OneResult magnitude_of.Post
magnitude_of_once κs a x y s t h k = same h k

pub whole_to_f32_once : OneResult whole_to_f32.Post
whole_to_f32_once κs a x y s t h k = same h k
