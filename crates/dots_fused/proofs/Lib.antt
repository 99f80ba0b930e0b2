-- The fused dot as the dot of the decoded row, and one answer for each call.
pub mod Decoded
pub mod Unique
