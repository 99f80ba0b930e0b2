-- Laws of the stepped layer's calls, and one answer for each call.
pub mod Runs
pub mod Counts
pub mod Unique
