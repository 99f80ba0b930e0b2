-- What a loop that fills memory leaves.
pub mod Filled
pub mod Parts
pub mod Laid
pub mod Streams
pub mod Every
