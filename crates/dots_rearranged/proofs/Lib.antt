-- Why the law holds, of the calls too, and a row where the fused dot does not have it.
pub mod Gathered
pub mod Orders
pub mod Places
pub mod Fields
pub mod Quants
pub mod Small
pub mod Dots
pub mod Weights
pub mod Blocks
pub mod Activations
pub mod Rows
pub mod Layers
pub mod Law
pub mod Worked
pub mod Calls
