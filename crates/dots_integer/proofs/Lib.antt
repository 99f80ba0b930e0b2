-- What several proofs of `dots_integer` share.
pub mod Dots
pub mod Bounds
pub mod Answered
pub mod Unique
