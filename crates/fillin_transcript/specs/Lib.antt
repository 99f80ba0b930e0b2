-- The transcript of a whole input.
pub mod Transcript
