-- Why the fused layers meet their contracts.
pub mod RowDots
pub mod Unique
