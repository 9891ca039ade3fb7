pub mod Words
pub mod Said
pub mod Line
pub mod Sessions
