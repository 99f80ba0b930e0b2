-- What is known of a layer that does not refuse, of one whose weights are short, and of its rows.
pub mod Fits
pub mod Short
pub mod Rows
