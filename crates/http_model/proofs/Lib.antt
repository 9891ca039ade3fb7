pub mod Blank
pub mod Streams
pub mod Sessions
pub mod Examples
