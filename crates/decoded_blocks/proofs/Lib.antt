-- Whole numbers times a scale, runs of values, and the order of a value's products.
pub mod Scaled
pub mod Runs
pub mod Orders
