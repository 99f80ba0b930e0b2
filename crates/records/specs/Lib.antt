-- Document 01's "The record reader": the kinds of records with what they mean and what is refused.
pub mod Kinds
