pub mod Copies
pub mod Writes
pub mod Calls
pub mod Blocks
pub mod Targets
