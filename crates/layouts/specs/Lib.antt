-- What a packed block means.
pub mod Formats
pub mod Of32
pub mod K
pub mod Weights
pub mod Counts
