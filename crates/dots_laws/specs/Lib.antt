-- Two laws of the fixed-order dot.
pub mod Laws
