-- What `fillin` answers to one record.
pub mod Kept
pub mod Answers
pub mod Inner
