-- Laws of a row's sum, which the proofs of this crate and of the crates above it share; one answer for each call.
pub mod RowLaws
pub mod Ones
pub mod Unique
