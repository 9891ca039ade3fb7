pub mod Refusals
pub mod Head
pub mod Stream
pub mod Session
