-- What several proofs of `layouts` share.
pub mod Small
pub mod Sizes
pub mod Short
pub mod Two
pub mod Quants
pub mod Rising
pub mod Written
pub mod Rows
pub mod Scales
pub mod Minimums
