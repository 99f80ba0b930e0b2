-- Laws of the tree, and one answer for its call.
pub mod TreeLaws
pub mod Unique
