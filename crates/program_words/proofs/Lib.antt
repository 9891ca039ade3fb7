pub mod Numbers
pub mod Counts
pub mod Stages
pub mod Parts
pub mod Walks
pub mod Ends
pub mod SessionWords
