-- What several proofs share, here and above.
pub mod Runs
pub mod Lanes
pub mod Lent
