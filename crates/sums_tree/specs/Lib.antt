-- Document 01's "Fixed-order sums": the tree.
pub mod Tree
