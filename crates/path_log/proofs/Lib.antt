pub mod Links
pub mod Logs
pub mod Numbers
pub mod Rows
