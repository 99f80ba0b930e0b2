-- What several proofs of `k_scales` share.
pub mod Scales
pub mod Both
