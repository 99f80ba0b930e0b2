-- What the scales and minimums of a block are made to.
pub mod Both
