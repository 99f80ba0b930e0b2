-- What the integer dot of a row says.
pub mod Rows
