-- Laws of the lines that `fillin` writes: how long they are, document 01's example, and one answer for each call.
pub mod Outputs
pub mod Lengths
pub mod Example
pub mod Unique
