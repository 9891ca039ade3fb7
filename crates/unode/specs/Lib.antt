pub mod Parts
pub mod Views
pub mod History
pub mod Lookup
