-- Document 01's "Fixed-order sums": the chunks of a row, and what the calls over rows say.
pub mod Rows
pub mod Says
