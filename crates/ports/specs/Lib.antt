pub mod Faults
pub mod Streams
pub mod Memory
pub mod Openers
pub mod Shelves
pub mod Accepts
