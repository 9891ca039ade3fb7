pub mod Gained
pub mod Whole
pub mod Steps
pub mod Settled
