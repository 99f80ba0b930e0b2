-- One answer for `piece`.
pub mod Unique
