-- What the `_cpu` layers refuse.
pub mod Refusals
