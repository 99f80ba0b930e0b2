-- What several proofs share, here and above.
pub mod Unique
pub mod Signed
pub mod Halves
pub mod FloatLaws
