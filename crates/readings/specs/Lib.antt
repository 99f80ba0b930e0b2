-- What readings become.
pub mod Readings
pub mod Inner
