-- What several proofs share, here and above.
pub mod Magnitudes
pub mod Ranges
pub mod Tests
pub mod Loops
pub mod Sixteen
pub mod Pairs
pub mod Zeros
pub mod Past
pub mod Unique
