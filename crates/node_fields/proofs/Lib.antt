pub mod Entries
pub mod Written
pub mod Exact
pub mod Named
