-- What several proofs of `quantizers` share.
pub mod Bytes
pub mod Counts
pub mod Unique
