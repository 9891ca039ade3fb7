pub mod Runs
pub mod Found
pub mod Cut
pub mod Halves
pub mod Joined
