-- The outputs of a row that is kept.
pub mod Outputs
