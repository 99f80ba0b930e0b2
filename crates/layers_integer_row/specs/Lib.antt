-- What the integer layers put into their output.
pub mod Outputs
pub mod Inner
