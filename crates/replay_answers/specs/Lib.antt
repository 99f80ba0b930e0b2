-- What stands in a payload, and when a stored answer is ours.
pub mod Payload
pub mod Same
