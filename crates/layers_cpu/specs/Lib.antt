-- What the `_cpu` layers say.
pub mod Says
pub mod Columns
