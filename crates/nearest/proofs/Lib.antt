-- What the proofs of `nearest` share, and what the nearest value is.
pub mod Searched
pub mod Meaning
