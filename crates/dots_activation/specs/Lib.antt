-- What an activation block is.
pub mod Whole
pub mod Inner
pub mod Blocks
