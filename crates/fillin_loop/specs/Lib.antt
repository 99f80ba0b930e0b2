-- What the loop over an input relies on, and the lines of what has come.
pub mod Input
pub mod Come
