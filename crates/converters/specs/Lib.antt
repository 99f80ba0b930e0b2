-- What the converters write, and what they say.
pub mod Orders
pub mod Says
