-- A row's dot, block by block, and one answer for its call.
pub mod Rows
pub mod Unique
