-- What the fused layers say.
pub mod Says
