-- Document 01's "The stepped layer": its calls.
pub mod Says
