-- What several proofs of `converters` share.
pub mod Moved
pub mod Orders
pub mod Refused
pub mod Unique
