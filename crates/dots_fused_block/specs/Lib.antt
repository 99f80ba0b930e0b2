-- The terms of the fused dots.
pub mod Terms
pub mod Inner
