-- What several proofs of `readings` share.
pub mod Unique
pub mod Values
pub mod SmallWhole
pub mod Held
pub mod Signs
pub mod BothSides
pub mod Peaks
pub mod Largest
pub mod Sides
pub mod EightLanes
pub mod FirstLargest
pub mod TwoEnds
