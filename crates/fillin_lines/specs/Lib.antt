-- The lines that `fillin` writes.
pub mod Lines
