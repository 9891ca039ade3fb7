pub mod Line
pub mod Pasts
