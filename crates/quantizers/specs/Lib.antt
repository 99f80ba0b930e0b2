-- What the block quantizers write, and what their scales lose.
pub mod Blocks
pub mod Lost
pub mod Says
