-- Laws of the lanes, and one answer for `canonical_chunk`.
pub mod LaneLaws
pub mod Unique
