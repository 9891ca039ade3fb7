pub mod Keys
pub mod Lists
pub mod Entered
pub mod Index
