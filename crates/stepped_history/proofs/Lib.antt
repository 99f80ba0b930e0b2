-- Demand 3, and that the calls of a history are those of the contracts.
pub mod History
pub mod OneGo
pub mod Calls
