pub mod Deriving
pub mod Pages
pub mod Sending
