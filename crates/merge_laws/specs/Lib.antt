pub mod Resolved
pub mod Joined
