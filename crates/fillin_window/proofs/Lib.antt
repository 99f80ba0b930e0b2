-- As many outputs as a layer has rows, and rows that meet in their dots.
pub mod Many
pub mod Rows
