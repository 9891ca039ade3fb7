pub mod Joining
pub mod Splitting
pub mod Crossing
pub mod Idle
