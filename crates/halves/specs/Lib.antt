-- What binary16 is, and which of four a narrowing to it was.
pub mod Binary16
pub mod How
