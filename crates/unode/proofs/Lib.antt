pub mod FileMarks
pub mod Pasts
pub mod Named
