-- Laws of a whole record and of the next one, and one answer for each call.
pub mod Whole
pub mod Pieces
pub mod Unique
