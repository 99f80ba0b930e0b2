-- Why the two laws hold, of the calls too, and a dot whose zero keeps its sign.
pub mod Kept
pub mod Exchange
pub mod Negation
pub mod ZeroKept
pub mod Calls
