pub mod Ranges
pub mod Files
pub mod Steps
pub mod AtOnce
pub mod Trees
pub mod Texts
pub mod Children
