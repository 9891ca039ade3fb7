pub mod Cores
pub mod Tables
pub mod Rows
pub mod Runs
