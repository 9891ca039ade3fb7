pub mod Elements
pub mod Faults
pub mod Fronts
pub mod Names
pub mod Order
pub mod Under
