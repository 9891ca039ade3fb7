pub mod Answers
pub mod Children
pub mod Lookup
pub mod Names
