pub mod Faults
pub mod Answers
pub mod Settling
pub mod Headers
pub mod Reading
pub mod ReplayFaults
pub mod Entering
pub mod Joining
