-- What converting does to decoding and to quantising.
pub mod Decoded
pub mod Quantized
