pub mod Merged
pub mod Known
pub mod Deriving
