-- How C is handed what a call says.
pub mod Answers
pub mod Lost
