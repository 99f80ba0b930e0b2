-- Why the `_cpu` layers meet their contracts.
pub mod Columns
pub mod Unique
