-- What the integer layers say.
pub mod Says
