-- What `piece` says, and what a row's slots come to.
pub mod Pieces
