-- How a row of readings is kept, and how the dots of its blocks meet.
pub mod Meets
pub mod Inner
