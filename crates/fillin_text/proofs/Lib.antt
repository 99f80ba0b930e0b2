-- Laws of text: pieces laid into a line, and numbers as text.
pub mod Laid
pub mod Decimal
pub mod Hexadecimal
