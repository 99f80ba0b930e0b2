-- Demand 3: the history of a stepped layer.
pub mod History
