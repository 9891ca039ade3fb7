pub mod Bytes
pub mod Reading
pub mod Gives
pub mod Reads
pub mod Places
