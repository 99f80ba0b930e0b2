-- Laws of a block's terms: lanes that grow by them, and signed bytes as floats.
pub mod Grown
pub mod SignedBytes
