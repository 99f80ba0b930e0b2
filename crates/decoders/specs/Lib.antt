-- What the block decoders say.
pub mod Says
