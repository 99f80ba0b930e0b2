-- The cases that are run only.
pub mod RunOnly
