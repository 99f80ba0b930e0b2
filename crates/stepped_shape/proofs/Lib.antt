-- Laws of a stepped layer's shape, its checks, its format and its marks.
pub mod Shapes
pub mod Says
pub mod Marks
