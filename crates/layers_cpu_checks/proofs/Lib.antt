-- What is known of a `_cpu` layer that nothing was refused of.
pub mod CpuFits
