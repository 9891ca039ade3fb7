pub mod Opened
pub mod Unfolded
pub mod Steps
pub mod Texts
