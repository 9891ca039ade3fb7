pub mod Apart
pub mod Untold
pub mod Came
