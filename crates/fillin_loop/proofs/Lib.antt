-- Lines behind lines; records one a turn.
pub mod Behind
pub mod Turns
