pub mod Onward
pub mod Marks
pub mod Fronts
