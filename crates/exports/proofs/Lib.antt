-- What the proofs of `exports` share, and one answer for each call.
pub mod Unique
