-- What is kept from record to record, and one answer for each call.
pub mod Begun
pub mod Kept
pub mod Unique
