-- How the count of wrong rows grows.
pub mod Counted
