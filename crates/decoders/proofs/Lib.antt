-- What several proofs of `decoders` share.
pub mod Refused
pub mod Unique
