-- How row results meet, and blocks as they are kept.
pub mod Meets
pub mod Blocks
