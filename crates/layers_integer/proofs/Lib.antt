-- One answer for each contract of `layers_integer`, outputs as row dots, and a worked case.
pub mod RowDots
pub mod Unique
pub mod Worked
