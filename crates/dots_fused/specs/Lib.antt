-- What the fused dots say.
pub mod Says
