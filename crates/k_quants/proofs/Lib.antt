-- What several proofs of `k_quants` share.
pub mod Eight
pub mod LaidOut
