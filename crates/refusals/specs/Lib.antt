-- What a call says, the sizes it takes, and what a refusal leaves.
pub mod Said
pub mod Sizes
pub mod Refusals
