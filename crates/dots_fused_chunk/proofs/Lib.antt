-- Laws of a row's terms by block and by chunk, and one answer.
pub mod Rows
pub mod Unique
