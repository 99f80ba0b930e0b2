-- What binary16 is as numbers, how a narrowing fares, and what several proofs share.
pub mod Widening
pub mod Narrowing
pub mod Fares
pub mod Unique
pub mod SameValue
pub mod Patterns
pub mod Shifted
pub mod Cases
