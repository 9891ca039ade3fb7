pub mod Denials
pub mod Index
pub mod View
