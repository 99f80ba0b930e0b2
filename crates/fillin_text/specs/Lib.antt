-- Pieces of text.
pub mod Text
