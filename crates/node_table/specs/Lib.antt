pub mod Table
pub mod Parts
pub mod Reads
pub mod Faults
