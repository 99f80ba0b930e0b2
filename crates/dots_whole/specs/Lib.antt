-- What the whole-number sums of the block dots say.
pub mod Sums
pub mod Inner
