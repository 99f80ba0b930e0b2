-- Document 01's bench card, and the program's rows.
pub mod Card
pub mod Rows
