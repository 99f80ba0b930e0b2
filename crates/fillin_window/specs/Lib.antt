-- What a window holds and what is put out for it.
pub mod Windows
pub mod Inner
