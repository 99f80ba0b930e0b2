-- The order inside a sub-block or run does not matter for the integer dots.
pub mod Orders
pub mod Moved
pub mod Laws
pub mod Worked
