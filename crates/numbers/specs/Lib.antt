-- What the steps and the fields are, and which floats are alike.
pub mod Fields
pub mod Steps
pub mod Alike
