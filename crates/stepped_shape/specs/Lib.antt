-- Document 01's "The stepped layer": a layer's shape and memory, what run answers, what the calls refuse, and what a
-- piece that is worked relies on.
pub mod Layer
pub mod Progress
pub mod Refusals
pub mod Inner
