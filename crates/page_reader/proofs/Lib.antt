pub mod Ids
pub mod Reading
pub mod Lines
pub mod Texts
pub mod Loops
pub mod Landings
pub mod Pages
pub mod Examples
