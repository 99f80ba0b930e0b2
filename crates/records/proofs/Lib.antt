-- What is known of a record that was read, and one answer for each call.
pub mod UpTo
pub mod Zeros
pub mod Taken
pub mod Unique
