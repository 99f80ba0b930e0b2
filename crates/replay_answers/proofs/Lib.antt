-- What the judges' tests mean.
pub mod Means
