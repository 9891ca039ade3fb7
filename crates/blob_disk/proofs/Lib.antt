pub mod Marks
pub mod Logs
pub mod Walk
pub mod Memories
pub mod Moments
pub mod Clients
pub mod Torn
