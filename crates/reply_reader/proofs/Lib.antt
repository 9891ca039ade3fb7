pub mod Values
pub mod Counting
pub mod Found
pub mod Fronts
pub mod Written
pub mod Examples
