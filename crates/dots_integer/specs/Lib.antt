-- What the dots over activation blocks say.
pub mod Dots
