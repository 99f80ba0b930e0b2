-- Document 01's "Fixed-order sums": the lanes of a chunk, and what `canonical_chunk` says.
pub mod Lanes
pub mod Says
