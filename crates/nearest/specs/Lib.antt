-- What a reading becomes in IQ4_NL.
pub mod Nearest
pub mod Inner
