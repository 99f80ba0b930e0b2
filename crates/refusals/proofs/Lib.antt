-- What other crates lean on: one answer for each contract, and the laws of a refusal.
pub mod Once
pub mod Laws
