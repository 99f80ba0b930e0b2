-- A record's frame, and records that come in pieces.
pub mod Frame
pub mod Pieces
