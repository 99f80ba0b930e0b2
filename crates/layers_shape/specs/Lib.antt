-- A layer's shape.
pub mod Shapes
